use Rattle.std.proofs.Common.{◌-◌, ◌≤◌, length}
use Rattle.s2ix_table_parts.proofs.change.parts_changed.last_by.Given as goal

abbrev pub invariant-loop-low : goal.invariant-loop-low
invariant-loop-low l = (l.low ≤ l.high) × (l.high ≤ length l.parts)

abbrev pub decreases-loop-low : goal.decreases-loop-low
decreases-loop-low l = l.high - l.low
