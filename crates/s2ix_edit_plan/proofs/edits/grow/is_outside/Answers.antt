use Rattle.std.proofs.Common.{not, ap}
use Rattle.std.specs.Bool.{one_answer}
use Rattle.s2ix_edit_plan.proofs.Grow.{overlaps_one-decides}
use Rattle.s2ix_edit_plan.proofs.edits.grow.is_outside.Goals as goal

pub returns : goal.returns
returns c =
    ap not (one_answer _ _ c.intersects.ensures (overlaps_one-decides c.args.region.now c.args.cell))
