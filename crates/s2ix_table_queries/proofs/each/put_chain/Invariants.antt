-- What is written, with what is left of the chain, is the whole.
use Rattle.std.proofs.Common.{◌≡◌, ◌+◌, ◌++◌, ◌≤◌, Some, length, map, take}
use Rattle.s2ix_table_walk.specs.Places.{IsPlace, from_place}
use Rattle.s2ix_table_queries.proofs.each.put_chain.Given as goal

abbrev pub invariant-loop-next : goal.invariant-loop-next
invariant-loop-next g l =
    ((p : g.row.T-Place.Denot) → l.next ≡ Some p → IsPlace (g.T.RangeTable.chain l.table) p)
    × (l.from ≤ l.at)
    × (l.at ≤ length l.out)
    × (length l.out ≡ length l.initial.out)
    × (take l.from l.out ≡ take l.from l.initial.out)
    × (l.at + length (from_place (g.T.RangeTable.chain l.table) l.next)
    ≡ l.from + length (from_place (g.T.RangeTable.chain l.table) l.fn.first))
    × (take l.at l.out ++ map g.R.OfHeld.of (from_place (g.T.RangeTable.chain l.table) l.next)
    ≡ take l.from l.initial.out ++ map g.R.OfHeld.of (from_place (g.T.RangeTable.chain l.table) l.fn.first))

abbrev pub decreases-loop-next : goal.decreases-loop-next
decreases-loop-next g l = length (from_place (g.T.RangeTable.chain l.table) l.next)
