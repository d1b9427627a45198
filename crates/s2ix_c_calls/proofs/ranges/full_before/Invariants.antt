-- The ranges that were passed over are empty.
use Rattle.std.proofs.Common.{ℕ, ◌≤◌, ◌<◌, length}
use Rattle.s2ix_c_calls.specs.Ranges.{IsEmptyAt}
use Rattle.s2ix_c_calls.proofs.ranges.full_before.Given as goal

abbrev pub invariant-loop-end : goal.invariant-loop-end
invariant-loop-end g l =
    (l.end ≤ l.before)
    × (l.end ≤ length (g.T.RangeTable.ranges l.table))
    × ((k : ℕ) → l.end ≤ k → k < l.before → k < length (g.T.RangeTable.ranges l.table) → IsEmptyAt (g.T.RangeTable.ranges l.table) k)

abbrev pub decreases-loop-end : goal.decreases-loop-end
decreases-loop-end g l = l.end
