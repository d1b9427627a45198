use Rattle.std.proofs.Common.{◌-◌, ◌≤◌, length}
use Rattle.s2ix_bag_lists.specs.View.{lists_in}
use Rattle.s2ix_table_parts.proofs.change.parts_changed.lists_below.Given as goal

abbrev pub invariant-loop-low : goal.invariant-loop-low
invariant-loop-low l = (l.low ≤ l.high) × (l.high ≤ length (lists_in l.lists))

abbrev pub decreases-loop-low : goal.decreases-loop-low
decreases-loop-low l = l.high - l.low
