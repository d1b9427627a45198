use Rattle.std.proofs.Common.{◌-◌, ◌<◌, ◌≤◌, length}
use Rattle.s2ix_bag_lists.specs.View.{lists_in}
use Rattle.s2ix_table_parts.proofs.change.parts_changed.ahead_of.Given as goal

abbrev pub invariant-loop-step : goal.invariant-loop-step
invariant-loop-step l = (l.first ≤ length (lists_in l.lists)) × (0 < l.step)

abbrev pub decreases-loop-step : goal.decreases-loop-step
decreases-loop-step l = length (lists_in l.lists) - l.first
