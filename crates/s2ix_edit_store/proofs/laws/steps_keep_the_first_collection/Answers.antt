use Rattle.std.proofs.Common.{refl}
use Rattle.s2ix_edit_store.proofs.Applied.{first_after_apply}
use Rattle.s2ix_edit_store.proofs.Joined.{first_after_join}
use Rattle.s2ix_edit_store.proofs.Shortened.{first_after_forget_older}
use Rattle.s2ix_edit_store.proofs.Standing.{first_after_edit, first_after_redo, first_after_undo}
use Rattle.s2ix_edit_store.proofs.laws.steps_keep_the_first_collection.Goals as goal

pub returns : goal.returns
returns c = record {
  start = λ bag. refl;
  edit = first_after_edit;
  undo = first_after_undo;
  redo = first_after_redo;
  forget = λ s. refl;
  forget_older = first_after_forget_older;
  join = first_after_join;
  apply = first_after_apply;
}
