-- The leaves so far are answered, and what lies over the last one was put from a place on.
use Rattle.std.proofs.Common.{◌≡◌, ◌≤◌, ◌-◌, drop, length, take}
use Rattle.s2ix_table_queries.specs.ManyLeaves.{AreAnswered, AreOver, over_first}
use Rattle.s2ix_table_queries.proofs.each.put_run.Given as goal

abbrev pub invariant-loop-done : goal.invariant-loop-done
invariant-loop-done g l =
    AreAnswered g.R.OfHeld.of (g.T.RangeTable.pairs l.table) l.leaves l.done.leaves l.ends l.out
    × (l.done.pairs ≡ length (over_first l.done.leaves l.leaves (g.T.RangeTable.pairs l.table)))
    × (l.done.pairs ≤ length l.out)
    × (length l.out ≡ length l.initial.out)
    × (length l.ends ≡ length l.initial.ends)
    × (l.fn.before.leaves ≤ l.done.leaves)
    × (l.last ≤ l.done.pairs)
    × AreOver g.R.OfHeld.of (g.T.RangeTable.pairs l.table) l.contents.start l.contents.limit (drop l.last (take l.done.pairs l.out))

abbrev pub decreases-loop-done : goal.decreases-loop-done
decreases-loop-done g l = length l.leaves - l.done.leaves
