use Rattle.s2ix_edit_store.proofs.Followed.{history_after_forget, history_after_redo, history_after_undo, history_edited}
use Rattle.s2ix_edit_store.proofs.Joined.{history_after_join}
use Rattle.s2ix_edit_store.proofs.Joins.{history_after_apply}
use Rattle.s2ix_edit_store.proofs.Shortened.{history_after_forget_older}
use Rattle.s2ix_edit_store.proofs.laws.steps_follow_the_history.Goals as goal

pub returns : goal.returns
returns c = record {
  edit = history_edited;
  undo = history_after_undo;
  redo = history_after_redo;
  forget = history_after_forget;
  forget_older = history_after_forget_older;
  join = history_after_join;
  apply = history_after_apply;
}
