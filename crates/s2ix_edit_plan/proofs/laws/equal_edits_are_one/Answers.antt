use Rattle.s2ix_edit_plan.proofs.Equal.{edits_decided}
use Rattle.s2ix_edit_plan.proofs.laws.equal_edits_are_one.Goals as goal

pub returns : goal.returns
returns c = edits_decided
