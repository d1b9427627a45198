use Rattle.std.proofs.Common.{◌-◌}
use Rattle.s2ix_edit_plan.proofs.Removals.{Halved}
use Rattle.s2ix_edit_plan.proofs.edits.removals.place_not_held.Given as goal

abbrev pub invariant-loop-high : goal.invariant-loop-high
invariant-loop-high l = Halved l.rows l.bag.held l.low l.high

abbrev pub decreases-loop-high : goal.decreases-loop-high
decreases-loop-high l = l.high - l.low
