use Rattle.s2ix_cli_files.proofs.Recorded.{done_has_journal, done_is_journal, done_is_read_back}
use Rattle.s2ix_cli_files.proofs.laws.stores_have_journals.Goals as goal

pub returns : goal.returns
returns c = record {
  changes = done_is_journal;
  text = done_has_journal;
  accepted = λ s st. (done_is_read_back s st).0;
  one = λ s changes st of_changes. (done_is_read_back s st).1 changes of_changes;
}
