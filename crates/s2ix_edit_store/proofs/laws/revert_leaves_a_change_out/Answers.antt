use Rattle.s2ix_edit_store.proofs.Standing.{change_left_out}
use Rattle.s2ix_edit_store.proofs.laws.revert_leaves_a_change_out.Goals as goal

pub returns : goal.returns
returns c = change_left_out
