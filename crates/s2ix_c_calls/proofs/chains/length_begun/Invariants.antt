-- The pairs that are counted and those that are left are as many as there were.
use Rattle.std.proofs.Common.{◌≡◌, ◌+◌, Some, length}
use Rattle.s2ix_table_walk.specs.Places.{IsPlace, from_place}
use Rattle.s2ix_table_walk.specs.Walking.{front_from}
use Rattle.s2ix_c_calls.proofs.chains.length_begun.Given as goal

abbrev pub invariant-loop-next : goal.invariant-loop-next
invariant-loop-next g l =
    ((p : g.row.T-Place.Denot) → l.next ≡ Some p → IsPlace (g.T.RangeTable.chain l.table) p)
    × (l.begun + length (front_from l.from (from_place (g.T.RangeTable.chain l.table) l.next))
    ≡ length (front_from l.from (from_place (g.T.RangeTable.chain l.table) l.fn.first)))

abbrev pub decreases-loop-next : goal.decreases-loop-next
decreases-loop-next g l = length (from_place (g.T.RangeTable.chain l.table) l.next)
