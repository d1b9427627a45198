-- Each text, and each dump with a journal, has one answer.
use Rattle.std.proofs.Common.{◌≡◌, ℕ, List, Option, Some, None, Result, Ok, Err, refl, sym, ap, ap₂, subst, ⊎_elim, inl, inr, ◌∙◌}
use Rattle.std.specs.Option.{option_map}
use Rattle.s2ix_bag_pairs.specs.declared.limits.Limits.{Limits}
use Rattle.s2ix_bag_pairs.specs.declared.pair.Entry.{Entry}
use Rattle.s2ix_bag_pairs.specs.Collection.{Collection, LimitedCollection, IsBag}
use Rattle.s2ix_text.specs.DumpFaults.{dump_fault}
use Rattle.s2ix_text.specs.declared.dump_error.DumpFault.{DumpFault}
use Rattle.s2ix_bag_pairs.specs.Change.{change_between}
use Rattle.s2ix_text.proofs.WholeDumps.{dumps_have_no_fault}
use Rattle.s2ix_text.specs.JournalFaults.{journal_fault}
use Rattle.s2ix_text.proofs.Answered.{journals_have_no_fault}
use Rattle.s2ix_bag.specs.declared.replay_error.ReplayError.{ReplayError}
use Rattle.s2ix_bag.specs.declared.replay_error.ReplayError.TheVariants as answered
use Rattle.s2ix_bag.specs.Replay.{with_numbers, replay_refusal, replayed, rewind_refusal, rewound, way_back}
use Rattle.s2ix_bag.proofs.Forth.{never_memory}
use Rattle.s2ix_text_write.proofs.Dumps.{one_dump as one_collection}
use Rattle.s2ix_text_write.proofs.Journals.{one_journal as one_list}
use Rattle.s2ix_cli_files.specs.declared.refusal.Refusal.{Refusal}
use Rattle.s2ix_cli_files.specs.declared.refusal.Refusal.TheVariants.{Mismatch, TooManyCopies, TooManyPairs}
use Rattle.s2ix_cli_files.specs.declared.refusal.TextsError.TheVariants.{Refused}
use Rattle.s2ix_cli_files.specs.Answers.{IsAnswerTo, answer_of}
use Rattle.s2ix_cli_files.specs.Laws.{HasOne}
use Rattle.s2ix_cli_files.specs.Reads.{DumpReads, IsDumpOf, IsJournalOf, JournalReads, EndsIn, ReadsAs, ReplayLeads, RewindLeads, TextsReplay, TextsRewind, ComesToChange, SecondReads, TextsDiffer, Then, dump_refusal, journal_refusal, second_refusal, Leading, TextsLead}
use Rattle.s2ix_cli_files.specs.Refusals.{error_of_replay}

-- ---- what is read

no_other_value : {A : Type 0} (IsTextOf : A → Type 0) (refusal : Option Refusal) (a : A) → refusal ≡ None
    → ((other : A) → IsTextOf other → other ≡ a)
    → (other : Result A Refusal) → ReadsAs IsTextOf refusal other → other ≡ Ok a
no_other_value IsTextOf refusal a none one (Ok other) reads = ap Ok (one other reads)
no_other_value IsTextOf refusal a none one (Err found) reads = let clash : Some found ≡ None = sym reads ∙ none in cc

no_other_refusal : {A : Type 0} (IsTextOf : A → Type 0) (refusal : Option Refusal) (found : Refusal) → refusal ≡ Some found
    → ((a : A) → IsTextOf a → refusal ≡ None)
    → (other : Result A Refusal) → ReadsAs IsTextOf refusal other → other ≡ Err found
no_other_refusal IsTextOf refusal found is sound (Ok a) reads = let clash : Some found ≡ None = sym is ∙ sound a reads in cc
no_other_refusal IsTextOf refusal found is sound (Err other) reads = let same : Some other ≡ Some found = sym reads ∙ is in cc

one_read_at : {A : Type 0} (IsTextOf : A → Type 0) (refusal at : Option Refusal) → refusal ≡ at → (refusal ≡ None → HasOne IsTextOf)
    → ((a : A) → IsTextOf a → refusal ≡ None)
    → HasOne (ReadsAs IsTextOf refusal)
one_read_at IsTextOf refusal None is one sound = let o = one is in (Ok o.0, o.1, no_other_value IsTextOf refusal o.0 is o.2)
one_read_at IsTextOf refusal (Some found) is one sound = (Err found, is, no_other_refusal IsTextOf refusal found is sound)

-- if a text is sound exactly if it is one thing's, it comes to one thing
one_read : {A : Type 0} (IsTextOf : A → Type 0) (refusal : Option Refusal) → (refusal ≡ None → HasOne IsTextOf)
    → ((a : A) → IsTextOf a → refusal ≡ None)
    → HasOne (ReadsAs IsTextOf refusal)
one_read IsTextOf refusal one sound = one_read_at IsTextOf refusal refusal refl one sound

none_mapped : {F : Type 0} (refused : F → Refusal) (found : Option F) → option_map refused found ≡ None → found ≡ None
none_mapped refused (Some f) is = cc
none_mapped refused None is = refl

-- ---- a dump

same_bag : (bag other : LimitedCollection) → other.limits ≡ bag.limits → other.held ≡ bag.held → other ≡ bag
same_bag bag other limits held =
    ap₂ (λ (l : Limits) (h : Collection). let b : LimitedCollection = record { limits = l; held = h } in b) limits held

one_dump_of : (limits : Limits) (text : List ℕ) → dump_fault limits text ≡ None → HasOne (IsDumpOf limits text)
one_dump_of limits text none =
    let found = (dumps_have_no_fault limits text).0 none in
    let bag : LimitedCollection = record { limits = limits; held = found.0 } in (
      bag,
      (found.1, refl, found.2),
      λ other is. same_bag bag other is.1 (one_collection text other.held bag.held is.2 found.2),
    )

dump_is_sound : (limits : Limits) (text : List ℕ) (bag : LimitedCollection) → IsDumpOf limits text bag → dump_fault limits text ≡ None
dump_is_sound limits text bag is =
    let Bag : Limits → Type 0 = λ l. IsBag (record { limits = l; held = bag.held }) in
    (dumps_have_no_fault limits text).1 (bag.held, subst Bag is.1 is.0, is.2)

one_dump_told : (told : ℕ × DumpFault → Refusal) (limits : Limits) (text : List ℕ)
    → HasOne (ReadsAs (IsDumpOf limits text) (option_map told (dump_fault limits text)))
one_dump_told told limits text =
    one_read (IsDumpOf limits text) (option_map told (dump_fault limits text))
    (λ none. one_dump_of limits text (none_mapped told (dump_fault limits text) none))
    (λ bag is. ap (option_map told) (dump_is_sound limits text bag is))

pub one_dump : (limits : Limits) (text : List ℕ) → HasOne (DumpReads limits text)
one_dump = one_dump_told dump_refusal

one_second : (limits : Limits) (text : List ℕ) → HasOne (SecondReads limits text)
one_second = one_dump_told second_refusal

-- ---- a journal

one_journal_of : (limits : Limits) (text : List ℕ) → journal_fault limits text ≡ None → HasOne (IsJournalOf limits text)
one_journal_of limits text none =
    let found = (journals_have_no_fault limits text).0 none in (
      found.0,
      (found.1, found.2),
      λ other is. one_list text other found.0 is.1 found.2,
    )

one_journal : (limits : Limits) (text : List ℕ) → HasOne (JournalReads limits text)
one_journal limits text =
    one_read (IsJournalOf limits text) (option_map journal_refusal (journal_fault limits text))
    (λ none. one_journal_of limits text (none_mapped journal_refusal (journal_fault limits text) none))
    (λ changes is. ap (option_map journal_refusal) ((journals_have_no_fault limits text).1 (changes, is.0, is.1)))

-- ---- one thing and then another

same_refusal : {A : Type 0} (r s : Refusal) → (let e : Result A Refusal = Err r in e) ≡ Err s → r ≡ s
same_refusal r s is = cc

pub same_value : {A : Type 0} (a b : A) → (let r : Result A Refusal = Ok a in r) ≡ Ok b → a ≡ b
same_value a b is = cc

then_one : {A B : Type 0} (First : Result A Refusal → Type 0) (Next : A → Result B Refusal → Type 0) (first : Result A Refusal)
    → First first
    → ((other : Result A Refusal) → First other → other ≡ first) → ((a : A) → HasOne (Next a)) → HasOne (Then First Next)
then_one {A} {B} First Next (Ok a) is one next =
    let n = next a in (
      n.0,
      inl (a, is, n.1),
      λ other comes.
          ⊎_elim
          (λ went. let On : A → Type 0 = λ x. Next x other in n.2 other (subst On (same_value went.0 a (one (Ok went.0) went.1)) went.2))
          (λ refused. let clash : Err refused.0 ≡ Ok a = one (Err refused.0) refused.1 in cc)
          comes,
    )
then_one {A} {B} First Next (Err refusal) is one next = (
  Err refusal,
  inr (refusal, is, refl),
  λ other comes.
      ⊎_elim
      (λ went. let clash : Ok went.0 ≡ Err refusal = one (Ok went.0) went.1 in cc)
      (λ refused. let same : (let r : Result A Refusal = Err refused.0 in r) ≡ Err refusal = one (Err refused.0) refused.1 in refused.2
      ∙ ap Err (same_refusal refused.0 refusal same))
      comes,
)

one_then : {A B : Type 0} (First : Result A Refusal → Type 0) (Next : A → Result B Refusal → Type 0) → HasOne First
    → ((a : A) → HasOne (Next a)) → HasOne (Then First Next)
one_then First Next first next = then_one First Next first.0 first.1 first.2 next

-- ---- changes

no_other_bag : (refusal : Option ReplayError) (bag : LimitedCollection) → refusal ≡ None → (other : Result LimitedCollection Refusal)
    → EndsIn refusal bag other → other ≡ Ok bag
no_other_bag refusal bag none (Ok reached) leads = ap Ok leads.1
no_other_bag refusal bag none (Err found) leads =
    let clash : Some (Refused found) ≡ None = sym leads ∙ ap (option_map error_of_replay) none in cc

no_other_printed : (refusal : Option ReplayError) (bag : LimitedCollection) (error : ReplayError) (found : Refusal) → refusal ≡ Some error
    → error_of_replay error ≡ Refused found
    → (other : Result LimitedCollection Refusal) → EndsIn refusal bag other → other ≡ Err found
no_other_printed refusal bag error found is answered (Ok reached) leads = let clash : Some error ≡ None = sym is ∙ leads.0 in cc
no_other_printed refusal bag error found is answered (Err other) leads =
    let same : Some (Refused other) ≡ Some (Refused found) = sym leads ∙ ap (option_map error_of_replay) is ∙ ap Some answered in cc

leads_printed : (refusal : Option ReplayError) (bag : LimitedCollection) (error : ReplayError) (found : Refusal) → refusal ≡ Some error
    → error_of_replay error ≡ Refused found → HasOne (EndsIn refusal bag)
leads_printed refusal bag error found is answered = (
  Err found,
  ap (option_map error_of_replay) is ∙ ap Some answered,
  no_other_printed refusal bag error found is answered,
)

leads_at : (refusal at : Option ReplayError) (bag : LimitedCollection) → refusal ≡ at → (refusal ≡ Some answered.OutOfMemory → ⊥)
    → HasOne (EndsIn refusal bag)
leads_at refusal None bag is never = (Ok bag, (is, refl), no_other_bag refusal bag is)
leads_at refusal (Some (answered.Mismatch change entry)) bag is never =
    leads_printed refusal bag (answered.Mismatch change entry) (Mismatch change entry) is refl
leads_at refusal (Some (answered.TooManyCopies change)) bag is never =
    leads_printed refusal bag (answered.TooManyCopies change) (TooManyCopies change) is refl
leads_at refusal (Some (answered.TooManyPairs change)) bag is never =
    leads_printed refusal bag (answered.TooManyPairs change) (TooManyPairs change) is refl
leads_at refusal (Some answered.OutOfMemory) bag is never = absurd (never is)

one_replay : (bag : LimitedCollection) (changes : List (List Entry)) → HasOne (ReplayLeads bag changes)
one_replay bag changes =
    leads_at (replay_refusal bag changes) (replay_refusal bag changes) (replayed bag changes) refl (never_memory bag (with_numbers changes))

one_rewind : (bag : LimitedCollection) (changes : List (List Entry)) → HasOne (RewindLeads bag changes)
one_rewind bag changes =
    leads_at (rewind_refusal bag changes) (rewind_refusal bag changes) (rewound bag changes) refl
    (never_memory bag (way_back (with_numbers changes)))

-- ---- answers

one_texts : (Leads : Leading) → ((bag : LimitedCollection) (changes : List (List Entry)) → HasOne (Leads bag changes))
    → (limits : Limits) (dump journal : List ℕ)
    → HasOne (TextsLead Leads limits dump journal)
one_texts Leads one limits dump journal =
    one_then (DumpReads limits dump) (λ bag. Then (JournalReads limits journal) (Leads bag)) (one_dump limits dump)
    (λ bag. one_then (JournalReads limits journal) (Leads bag) (one_journal limits journal) (one bag))

pub one_replayed : (limits : Limits) (dump journal : List ℕ) → HasOne (TextsReplay limits dump journal)
one_replayed = one_texts ReplayLeads one_replay

pub one_rewound : (limits : Limits) (dump journal : List ℕ) → HasOne (TextsRewind limits dump journal)
one_rewound = one_texts RewindLeads one_rewind

one_change : (old new : LimitedCollection) → HasOne (ComesToChange old new)
one_change old new = (Ok (change_between old.held new.held), refl, λ other is. is)

pub one_difference : (limits : Limits) (first second : List ℕ) → HasOne (TextsDiffer limits first second)
one_difference limits first second =
    one_then (DumpReads limits first) (λ old. Then (SecondReads limits second) (ComesToChange old)) (one_dump limits first)
    (λ old. one_then (SecondReads limits second) (ComesToChange old) (one_second limits second) (one_change old))

-- what comes to one thing has one answer
pub one_answer : {A : Type 0} (printed : A → List ℕ) (ComesTo : Result A Refusal → Type 0) → HasOne ComesTo
    → HasOne (IsAnswerTo printed ComesTo)
one_answer printed ComesTo one =
    (answer_of printed one.0, (one.0, one.1, refl), λ other is. is.2 ∙ ap (answer_of printed) (one.2 is.0 is.1))
