-- The rows that are out, with those of the pairs that are still to go out, are the chain's.
use Rattle.std.proofs.Common.{◌≡◌, ◌≤◌, ◌++◌, Some, length, map, take, drop}
use Rattle.s2ix_table_walk.specs.Places.{IsPlace, from_place}
use Rattle.s2ix_table_walk.specs.Walking.{front_from}
use Rattle.s2ix_c_calls.specs.Lists.{row_of}
use Rattle.s2ix_c_calls.proofs.chains.write_begun.Given as goal

abbrev pub invariant-loop-next : goal.invariant-loop-next
invariant-loop-next g l =
    ((p : g.row.T-Place.Denot) → l.next ≡ Some p → IsPlace (g.T.RangeTable.chain l.table) p)
    × (take l.count l.out ++ map row_of (front_from l.from (from_place (g.T.RangeTable.chain l.table) l.next))
    ≡ map row_of (front_from l.from (from_place (g.T.RangeTable.chain l.table) l.fn.first)))
    × (l.count ≤ length l.out)
    × (drop l.count l.out ≡ drop l.count l.initial.out)
    × (length l.out ≡ length l.initial.out)
    × (length (from_place (g.T.RangeTable.chain l.table) l.next) ≤ length (from_place (g.T.RangeTable.chain l.table) l.fn.first))

abbrev pub decreases-loop-next : goal.decreases-loop-next
decreases-loop-next g l = length (from_place (g.T.RangeTable.chain l.table) l.next)
