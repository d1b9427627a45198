-- The chain goes on after those that are passed.
use Rattle.std.proofs.Common.{◌≡◌, ◌≤◌, ◌-◌, Some, drop}
use Rattle.s2ix_table_walk.specs.Places.{IsPlace, from_place}
use Rattle.s2ix_c_calls.proofs.chains.place_after.Given as goal

abbrev pub invariant-loop-passed : goal.invariant-loop-passed
invariant-loop-passed g l =
    ((p : g.row.T-Place.Denot) → l.next ≡ Some p → IsPlace (g.T.RangeTable.chain l.table) p)
    × (from_place (g.T.RangeTable.chain l.table) l.next ≡ drop l.passed (from_place (g.T.RangeTable.chain l.table) l.fn.first))
    × (l.passed ≤ l.count)

abbrev pub decreases-loop-passed : goal.decreases-loop-passed
decreases-loop-passed g l = l.count - l.passed
