-- The leaves that were passed are answered.
use Rattle.std.proofs.Common.{◌≡◌, ◌≤◌, ◌-◌, length}
use Rattle.s2ix_table_queries.specs.ManyLeaves.{AreAnswered, over_first}
use Rattle.s2ix_table_queries.proofs.each.answer_from.Given as goal

abbrev pub invariant-loop-done : goal.invariant-loop-done
invariant-loop-done g l =
    AreAnswered g.R.OfHeld.of (g.T.RangeTable.pairs l.table) l.leaves l.done.leaves l.ends l.out
    × (l.done.pairs ≡ length (over_first l.done.leaves l.leaves (g.T.RangeTable.pairs l.table)))
    × (l.done.pairs ≤ length l.out)
    × (length l.out ≡ length l.initial.out)
    × (length l.ends ≡ length l.initial.ends)

abbrev pub decreases-loop-done : goal.decreases-loop-done
decreases-loop-done g l = length l.leaves - l.done.leaves
