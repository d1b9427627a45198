-- The ranges that were passed over are empty.
use Rattle.std.proofs.Common.{ℕ, ◌-◌, ◌≤◌, ◌<◌, length}
use Rattle.s2ix_c_calls.specs.Ranges.{IsEmptyAt}
use Rattle.s2ix_c_calls.proofs.ranges.full_from.Given as goal

abbrev pub invariant-loop-place : goal.invariant-loop-place
invariant-loop-place g l = (l.from ≤ l.place) × ((k : ℕ) → l.from ≤ k → k < l.place → IsEmptyAt (g.T.RangeTable.ranges l.table) k)

abbrev pub decreases-loop-place : goal.decreases-loop-place
decreases-loop-place g l = length (g.T.RangeTable.ranges l.table) - l.place
