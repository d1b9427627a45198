use Rattle.s2ix_edit_plan.proofs.Revert.{subtracts}
use Rattle.s2ix_edit_plan.proofs.laws.revert_subtracts_a_change.Goals as goal

pub returns : goal.returns
returns c = subtracts
