use Rattle.s2ix_edit_store.proofs.Applied.{apply_keeps}
use Rattle.s2ix_edit_store.proofs.Joined.{join_keeps}
use Rattle.s2ix_edit_store.proofs.Kept.{edit_keeps, forget_keeps, redo_keeps, undo_keeps}
use Rattle.s2ix_edit_store.proofs.Offered.{record_keeps}
use Rattle.s2ix_edit_store.proofs.RowsKept.{removal_keeps, rows_keep}
use Rattle.s2ix_edit_store.proofs.Shortened.{forget_older_keeps}
use Rattle.s2ix_edit_store.proofs.laws.steps_lead_to_stores.Goals as goal

pub returns : goal.returns
returns c = record {
  edit = edit_keeps;
  add_all = rows_keep;
  remove_all = removal_keeps;
  record_change = record_keeps;
  undo = undo_keeps;
  redo = redo_keeps;
  forget = forget_keeps;
  forget_older = forget_older_keeps;
  join = join_keeps;
  apply = apply_keeps;
}
