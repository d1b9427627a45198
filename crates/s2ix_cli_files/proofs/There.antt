-- Texts replayed and then rewound, and the other way round.
use Rattle.std.proofs.Common.{◌≡◌, ℕ, true, false, List, Result, Ok, Err, ap, refl, subst, sym, ⊎_elim, ◌∙◌}
use Rattle.s2ix_bag_pairs.specs.declared.limits.Limits.{Limits}
use Rattle.s2ix_bag_pairs.specs.declared.pair.Entry.{Entry}
use Rattle.s2ix_bag_pairs.specs.Collection.{Collection, IsBag, LimitedCollection}
use Rattle.s2ix_bag.specs.Replay.{with_numbers, replayed, rewound, way_back}
use Rattle.s2ix_bag.proofs.Back.{replay_of_rewind, replayed_is_bag, rewind_of_replay, rewound_is_bag}
use Rattle.s2ix_bag.proofs.Forth.{limits_stay}
use Rattle.s2ix_text_write.specs.declared.version.Version.{Version}
use Rattle.s2ix_text_write.specs.declared.version.Version.TheVariants.{Second}
use Rattle.s2ix_text_write.specs.Dump.{IsDump, dump_in, dump_text}
use Rattle.s2ix_text_write.proofs.Dumps.{bag_dump, one_version}
use Rattle.s2ix_cli_files.specs.declared.refusal.Refusal.{Refusal}
use Rattle.s2ix_cli_files.specs.Answers.{Answer, IsAnswerTo, ReplayAnswers, RewindAnswers, answer_of, dump_of}
use Rattle.s2ix_cli_files.specs.Laws.{BytesComeBack, ComesBack}
use Rattle.s2ix_cli_files.specs.Reads.{DumpReads, JournalReads, Leading, ReplayLeads, RewindLeads, TextsLead}
use Rattle.s2ix_cli_files.proofs.Joined.{texts_lead}

-- ---- what is accepted

-- texts of which all was accepted: the bag of the dump, the changes of the journal, and the bag that they come to
pub record Accepts (Leads : Leading) (limits : Limits) (dump journal : List ℕ) (answer : Answer) : Type 0 where
  pub bag : LimitedCollection
  pub changes : List (List Entry)
  pub reached : LimitedCollection
  pub dump_read : DumpReads limits dump (Ok bag)
  pub journal_read : JournalReads limits journal (Ok changes)
  pub leads : Leads bag changes (Ok reached)
  pub text : answer.text ≡ dump_text reached.held

accepted_at : (Leads : Leading) (limits : Limits) (dump journal : List ℕ) (answer : Answer) (outcome : Result LimitedCollection Refusal)
    → TextsLead Leads limits dump journal outcome → answer ≡ answer_of dump_of outcome → answer.accepted ≡ true
    → Accepts Leads limits dump journal answer
accepted_at Leads limits dump journal answer (Err refusal) comes is accepted =
    let clash : false ≡ true = sym (ap (λ (a : Answer). a.accepted) is) ∙ accepted in cc
accepted_at Leads limits dump journal answer (Ok reached) comes is accepted =
    ⊎_elim
    (λ read.
    ⊎_elim
    (λ led. record {
      bag = read.0;
      changes = led.0;
      reached = reached;
      dump_read = read.1;
      journal_read = led.1;
      leads = led.2;
      text = ap (λ (a : Answer). a.text) is;
    })
    (λ refused. let clash : Ok reached ≡ Err refused.0 = refused.2 in cc)
    read.2)
    (λ refused. let clash : Ok reached ≡ Err refused.0 = refused.2 in cc)
    comes

accepts : (Leads : Leading) (limits : Limits) (dump journal : List ℕ) (answer : Answer)
    → IsAnswerTo dump_of (TextsLead Leads limits dump journal) answer → answer.accepted ≡ true
    → Accepts Leads limits dump journal answer
accepts Leads limits dump journal answer answers accepted =
    accepted_at Leads limits dump journal answer answers.0 answers.1 answers.2 accepted

-- ---- there and back

-- what a text that is written reads as
read_again : (limits : Limits) (text : List ℕ) (bag : LimitedCollection) → IsBag bag → bag.limits ≡ limits → text ≡ dump_text bag.held
    → DumpReads limits text (Ok bag)
read_again limits text bag is_bag limits_are is = (is_bag, limits_are, subst (λ t. IsDump t bag.held) (sym is) (bag_dump bag is_bag))

-- texts that lead to a bag are answered by the dump that is written of it
pub leads_home : (Leads : Leading) (limits : Limits) (text journal : List ℕ) (home there : LimitedCollection) (changes : List (List Entry))
    → DumpReads limits text (Ok there) → JournalReads limits journal (Ok changes) → Leads there changes (Ok home)
    → IsAnswerTo dump_of (TextsLead Leads limits text journal) (record { text = dump_text home.held; accepted = true })
leads_home Leads limits text journal home there changes there_read journal_read leads =
    (Ok home, texts_lead Leads limits text journal there changes home there_read journal_read leads, refl)

pub rewind_replayed : ComesBack ReplayAnswers RewindAnswers
rewind_replayed limits dump journal answer answers accepted =
    let a = accepts ReplayLeads limits dump journal answer answers accepted in
    let lists = a.journal_read.0.lists in
    let back = rewind_of_replay a.bag a.changes a.dump_read.0 lists a.leads.0 in
    let there = replayed a.bag a.changes in
    let is_bag = replayed_is_bag a.bag a.changes a.dump_read.0 lists a.leads.0 in
    let text = a.text ∙ ap dump_of a.leads.1 in
    let again = read_again limits answer.text there is_bag (limits_stay a.bag (with_numbers a.changes) ∙ a.dump_read.1) text in (
      a.bag,
      a.dump_read,
      leads_home RewindLeads limits answer.text journal a.bag there a.changes again a.journal_read
          (back.taken, sym back.back),
    )

pub replay_rewound : ComesBack RewindAnswers ReplayAnswers
replay_rewound limits dump journal answer answers accepted =
    let a = accepts RewindLeads limits dump journal answer answers accepted in
    let lists = a.journal_read.0.lists in
    let forth = replay_of_rewind a.bag a.changes a.dump_read.0 lists a.leads.0 in
    let there = rewound a.bag a.changes in
    let is_bag = rewound_is_bag a.bag a.changes a.dump_read.0 lists a.leads.0 in
    let text = a.text ∙ ap dump_of a.leads.1 in
    let again = read_again limits answer.text there is_bag (limits_stay a.bag (way_back (with_numbers a.changes)) ∙ a.dump_read.1) text in (
      a.bag,
      a.dump_read,
      leads_home ReplayLeads limits answer.text journal a.bag there a.changes again a.journal_read
          (forth.0, sym forth.1),
    )

-- ---- byte for byte

-- a dump of the version that is written is the one that is written of what it reads as
written_again : (hs ks : Collection) → IsDump (dump_text hs) ks → dump_text ks ≡ dump_text hs
written_again hs ks of_ks =
    subst (λ (v : Version). dump_in v ks ≡ dump_text hs) (one_version of_ks.0 Second ks hs (sym of_ks.2)) (sym of_ks.2)

-- so what comes back is that dump
pub bytes_back : (There Back : Limits → List ℕ → List ℕ → Answer → Type 0) → ComesBack There Back → BytesComeBack There Back
bytes_back There Back comes limits hs journal answer answers accepted =
    let found = comes limits (dump_text hs) journal answer answers accepted in
    let AnswersWith : List ℕ → Type 0 = λ t. Back limits answer.text journal (record { text = t; accepted = true }) in
    subst AnswersWith (written_again hs found.0.held found.1.2) found.2
