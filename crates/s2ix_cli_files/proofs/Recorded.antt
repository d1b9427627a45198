-- The changes that a store has done are those of a journal within its limits.
use Rattle.std.proofs.Common.{◌≡◌, List, None, arith}
use Rattle.s2ix_bag_pairs.specs.declared.limits.Limits.{Limits}
use Rattle.s2ix_bag_pairs.specs.declared.pair.Entry.{Entry}
use Rattle.s2ix_edit_plan.specs.State.{State}
use Rattle.s2ix_edit_store.specs.Recorded.{IsRecorded}
use Rattle.s2ix_edit_store.specs.Store.{IsStore}
use Rattle.s2ix_edit_store.proofs.Recorded.{done_recorded, recorded_within_widest}
use Rattle.s2ix_text_write.specs.Journal.{IsJournalText, IsWritable, journal_text}
use Rattle.s2ix_text_write.proofs.Journals.{one_journal, written_journal}
use Rattle.s2ix_text.specs.JournalFaults.{journal_fault}
use Rattle.s2ix_text.specs.Journals.{IsJournal}
use Rattle.s2ix_text.proofs.Answered.{no_fault}

writable : (limits : Limits) (es : List Entry) → IsRecorded limits es → IsWritable es
writable limits es recorded =
    let widest = recorded_within_widest limits es recorded in
    record { some = recorded.some; within_limit = widest.0; small_before = widest.1; small_after = widest.2 }

pub done_is_journal : (s : State) → IsStore s → IsJournal s.bag.limits s.done
done_is_journal s st =
    let each = done_recorded s st in
    record {
      lists = λ k d within. (each k d within).rises;
      within = record {
        writable = λ k d within. writable s.bag.limits _ (each k d within);
        small = λ k d within. λ j e inside. let one = each k d within in (one.small_before j e inside, one.small_after j e inside);
        within_limit = omega (arith, st.room);
      };
    }

pub done_has_journal : (s : State) → IsStore s → IsJournalText (journal_text s.done) s.done
done_has_journal s st = written_journal s.done (done_is_journal s st).within.writable

pub done_is_read_back : (s : State) → IsStore s
    → (journal_fault s.bag.limits (journal_text s.done) ≡ None)
    × ((changes : List (List Entry)) → IsJournalText (journal_text s.done) changes → changes ≡ s.done)
done_is_read_back s st = (
  no_fault s.bag.limits (journal_text s.done) s.done (done_is_journal s st) (done_has_journal s st),
  λ changes of_changes. one_journal (journal_text s.done) changes s.done of_changes (done_has_journal s st),
)
