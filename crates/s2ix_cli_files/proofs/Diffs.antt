-- The change between two dumps leads from the one to the other.
use Rattle.std.proofs.Common.{◌≡◌, ℕ, ◌≤◌, List, [], ◌∷◌, length, reverse, Some, Result, Ok, Err, true, false, refl, sym, ap, subst, ⊎_elim, arith, ◌∙◌}
use Rattle.std.specs.List.{slice_get}
use Rattle.s2ix_bag_pairs.specs.declared.limits.Limits.{Limits}
use Rattle.s2ix_bag_pairs.specs.declared.pair.Entry.{Entry}
use Rattle.s2ix_bag_pairs.specs.Change.{IsChangeList, change_between, changed, inverse_of}
use Rattle.s2ix_bag_pairs.specs.Collection.{Collection, IsBag, LimitedCollection}
use Rattle.s2ix_bag_pairs.specs.Limits.{changes_limit}
use Rattle.s2ix_bag_pairs.proofs.Differences.{between_is_change, changed_between}
use Rattle.s2ix_bag_pairs.proofs.Inverse.{changed_inverse_between, inverse_between}
use Rattle.s2ix_bag_lists.specs.Apply.{apply_refusal}
use Rattle.s2ix_edit_plan.specs.State.{State, history_of}
use Rattle.s2ix_edit_store.specs.Given.{led_by}
use Rattle.s2ix_edit_store.specs.Steps.{recorded_alone, with_held}
use Rattle.s2ix_edit_store.specs.Store.{CanGoBack, IsStore}
use Rattle.s2ix_edit_store.proofs.Between.{alone_few, between_taken}
use Rattle.s2ix_edit_store.proofs.Journals.{done_is_taken_back, done_leads, done_leads_back}
use Rattle.s2ix_text_write.specs.Dump.{dump_text}
use Rattle.s2ix_text_write.specs.Journal.{journal_text}
use Rattle.s2ix_cli_files.specs.declared.refusal.Refusal.{Refusal}
use Rattle.s2ix_cli_files.specs.Answers.{Answer, ReplayAnswers, RewindAnswers, answer_of, journal_of}
use Rattle.s2ix_cli_files.specs.Laws.{DiffsLead}
use Rattle.s2ix_cli_files.specs.Reads.{DumpReads, IsDumpOf, JournalReads, ReplayLeads, RewindLeads, TextsDiffer}
use Rattle.s2ix_cli_files.proofs.One.{same_value}
use Rattle.s2ix_cli_files.proofs.Recorded.{done_has_journal, done_is_journal}
use Rattle.s2ix_cli_files.proofs.There.{leads_home}

-- ---- two bags as a store that is led from the one to the other

alone_goes_back : (bag : LimitedCollection) (old : Collection) (es : List Entry) → IsBag bag → IsBag (with_held bag old)
    → es ≡ change_between old bag.held → CanGoBack bag (reverse (recorded_alone es))
alone_goes_back bag old [] b old_is is = tt
alone_goes_back bag old (e ∷ es) b old_is is = (
  subst IsChangeList (sym is) (between_is_change old bag.held old_is.rises),
  omega arith,
  ap (λ xs. apply_refusal bag (inverse_of xs)) is ∙ ap (apply_refusal bag) (inverse_between old bag.held old_is.rises b.rises)
      ∙ between_taken bag old b old_is,
  tt,
)

-- the store at a bag with the change from another collection done
led_from : LimitedCollection → Collection → State
led_from bag old = led_by bag (recorded_alone (change_between old bag.held))

led_is_store : (bag : LimitedCollection) (old : Collection) → IsBag bag → IsBag (with_held bag old) → IsStore (led_from bag old)
unfolding led_from
led_is_store bag old b old_is =
    let es = change_between old bag.held in
    let low : 1 ≤ changes_limit bag.limits = bag.limits.in_range.4 in
    record {
      bag = b;
      can_go_back = alone_goes_back bag old es b old_is refl;
      can_go_on = tt;
      room = omega (arith, alone_few es, low);
    }

-- its history begins at the other collection
begins_at : (bag : LimitedCollection) (old : Collection) (es : List Entry) → IsBag bag → IsBag (with_held bag old)
    → es ≡ change_between old bag.held
    → slice_get (history_of (led_by bag (recorded_alone es))).collections 0 ≡ Some old
begins_at bag old [] b old_is is =
    let same : old ≡ bag.held = ap (changed old) is ∙ changed_between old bag.held old_is.rises b.rises in ap Some (sym same)
begins_at bag old (e ∷ es) b old_is is =
    let same : changed bag.held (inverse_of (e ∷ es)) ≡ old =
    ap (λ xs. changed bag.held (inverse_of xs)) is ∙ changed_inverse_between old bag.held old_is.rises b.rises in ap Some same

-- ---- two dumps

abbrev holding : Limits → Collection → LimitedCollection
holding limits hs = record { limits = limits; held = hs }

with_limits : (limits : Limits) (text : List ℕ) (bag : LimitedCollection) → IsDumpOf limits text bag
    → IsDumpOf limits text (holding limits bag.held)
with_limits limits text bag is =
    let Bag : Limits → Type 0 = λ l. IsBag (holding l bag.held) in (subst Bag is.1 is.0, refl, is.2)

-- a journal leads from the one dump to the other, and back
abbrev LeadsBetween : Limits → List ℕ → List ℕ → Collection → Collection → List ℕ → Type 0
LeadsBetween limits first second old new journal =
    ReplayAnswers limits first journal (record { text = dump_text new; accepted = true })
    × RewindAnswers limits second journal (record { text = dump_text old; accepted = true })

change_leads : (limits : Limits) (first second : List ℕ) (old new : Collection) → IsDumpOf limits first (holding limits old)
    → IsDumpOf limits second (holding limits new)
    → LeadsBetween limits first second old new (journal_of (change_between old new))
unfolding led_from
change_leads limits first second old new first_is second_is =
    let bag = holding limits new in
    let s = led_from bag old in
    let st = led_is_store bag old second_is.0 first_is.0 in
    let start = begins_at bag old (change_between old new) second_is.0 first_is.0 refl in
    let leads = done_leads s old st start in
    let journal : JournalReads limits (journal_text s.done) (Ok s.done) = (done_is_journal s st, done_has_journal s st) in (
      leads_home ReplayLeads limits first (journal_text s.done) bag (holding limits old) s.done first_is journal (leads.0, sym leads.1),
      leads_home RewindLeads limits second (journal_text s.done) (holding limits old) bag s.done second_is journal
          (done_is_taken_back s st, sym (done_leads_back s old st start)),
    )

diffs_at : (limits : Limits) (first second : List ℕ) (answer : Answer) (outcome : Result (List Entry) Refusal)
    → TextsDiffer limits first second outcome → answer ≡ answer_of journal_of outcome → answer.accepted ≡ true
    → (old new : LimitedCollection) × DumpReads limits first (Ok old) × DumpReads limits second (Ok new)
    × ReplayAnswers limits first answer.text (record { text = dump_text new.held; accepted = true })
    × RewindAnswers limits second answer.text (record { text = dump_text old.held; accepted = true })
diffs_at limits first second answer (Err refusal) comes is accepted =
    let clash : false ≡ true = sym (ap (λ (a : Answer). a.accepted) is) ∙ accepted in cc
diffs_at limits first second answer (Ok change) comes is accepted =
    ⊎_elim
    (λ read.
    ⊎_elim
    (λ also.
    let old = read.0.held in
    let new = also.0.held in
    let first_is = with_limits limits first read.0 read.1 in
    let second_is = with_limits limits second also.0 also.1 in
    let text = ap (λ (a : Answer). a.text) is ∙ ap journal_of (same_value change (change_between old new) also.2) in
    let leads = subst (LeadsBetween limits first second old new) (sym text) (change_leads limits first second old new first_is second_is) in
    (holding limits old, holding limits new, first_is, second_is, leads.0, leads.1))
    (λ refused. let clash : Ok change ≡ Err refused.0 = refused.2 in cc)
    read.2)
    (λ refused. let clash : Ok change ≡ Err refused.0 = refused.2 in cc)
    comes

pub diffs_lead : DiffsLead
diffs_lead limits first second answer answers accepted = diffs_at limits first second answer answers.0 answers.1 answers.2 accepted
