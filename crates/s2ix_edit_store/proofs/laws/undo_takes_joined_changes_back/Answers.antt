use Rattle.s2ix_edit_store.proofs.Joined.{undo_of_join}
use Rattle.s2ix_edit_store.proofs.laws.undo_takes_joined_changes_back.Goals as goal

pub returns : goal.returns
returns c = undo_of_join
