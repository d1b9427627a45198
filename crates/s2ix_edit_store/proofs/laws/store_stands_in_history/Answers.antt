use Rattle.s2ix_edit_store.proofs.Along.{bag_at_cursor, changes_have_entries, changes_of_history, history_within, length_of_history}
use Rattle.s2ix_edit_store.proofs.Followed.{done_to_cursor}
use Rattle.s2ix_edit_store.proofs.laws.store_stands_in_history.Goals as goal

pub returns : goal.returns
returns c = record {
  place = bag_at_cursor;
  within = history_within;
  number = length_of_history;
  changes = changes_of_history;
  done = done_to_cursor;
  entries = changes_have_entries;
}
