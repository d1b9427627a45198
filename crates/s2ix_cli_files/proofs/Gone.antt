-- A store goes on from its own texts.
use Rattle.std.proofs.Common.{◌≡◌, [], Ok, true, refl, sym, ap₂, ◌∙◌}
use Rattle.s2ix_bag.specs.Replay.{rewound}
use Rattle.s2ix_edit_plan.specs.State.{State}
use Rattle.s2ix_edit_store.specs.Given.{led_by}
use Rattle.s2ix_edit_store.specs.Store.{IsStore}
use Rattle.s2ix_edit_store.proofs.Journals.{done_is_taken_back}
use Rattle.s2ix_text_write.specs.Dump.{dump_text}
use Rattle.s2ix_text_write.specs.Journal.{journal_text}
use Rattle.s2ix_text_write.proofs.Dumps.{bag_dump}
use Rattle.s2ix_text_write.proofs.Journals.{one_journal}
use Rattle.s2ix_cli_files.specs.Answers.{ResumeAnswers}
use Rattle.s2ix_cli_files.specs.Reads.{DumpReads, JournalReads, Resumes, RewindLeads}
use Rattle.s2ix_cli_files.proofs.Joined.{texts_lead}
use Rattle.s2ix_cli_files.proofs.One.{one_dump, same_value}
use Rattle.s2ix_cli_files.proofs.Recorded.{done_has_journal, done_is_journal}

dump_of_store : (s : State) → IsStore s → DumpReads s.bag.limits (dump_text s.bag.held) (Ok s.bag)
dump_of_store s st = (st.bag, refl, bag_dump s.bag st.bag)

journal_of_store : (s : State) → IsStore s → JournalReads s.bag.limits (journal_text s.done) (Ok s.done)
journal_of_store s st = (done_is_journal s st, done_has_journal s st)

pub texts_are_accepted : (s : State) → IsStore s
    → ResumeAnswers s.bag.limits (dump_text s.bag.held) (journal_text s.done) (record { text = []; accepted = true })
texts_are_accepted s st = (
  Ok (rewound s.bag s.done),
  texts_lead RewindLeads s.bag.limits (dump_text s.bag.held) (journal_text s.done) s.bag s.done (rewound s.bag s.done) (dump_of_store s st)
      (journal_of_store s st) (done_is_taken_back s st, refl),
  refl,
)

pub texts_resume : (s : State) → IsStore s → Resumes s.bag.limits (dump_text s.bag.held) (journal_text s.done) (led_by s.bag s.done)
texts_resume s st = (s.bag, s.done, dump_of_store s st, journal_of_store s st, refl)

pub texts_resume_one : (s other : State) → IsStore s → Resumes s.bag.limits (dump_text s.bag.held) (journal_text s.done) other
    → other ≡ led_by s.bag s.done
texts_resume_one s other st is =
    let one = one_dump s.bag.limits (dump_text s.bag.held) in
    let ours = one.2 (Ok s.bag) (dump_of_store s st) in
    let theirs = one.2 (Ok is.0) is.2 in
    let bags = same_value is.0 s.bag (theirs ∙ sym ours) in
    let changes = one_journal (journal_text s.done) is.1 s.done is.3.1 (done_has_journal s st) in
    is.4 ∙ ap₂ led_by bags changes
