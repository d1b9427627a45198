-- The leaves so far are answered.
use Rattle.std.proofs.Common.{◌≡◌, ◌≤◌, ◌-◌, length}
use Rattle.s2ix_table_queries.specs.ManyLeaves.{AreAnswered, over_first}
use Rattle.s2ix_table_queries.proofs.many.answer_in_order.Given as goal

abbrev pub invariant-loop-count : goal.invariant-loop-count
invariant-loop-count g l =
    AreAnswered g.R.OfHeld.of (g.T.RangeTable.pairs l.table) l.leaves l.done.leaves l.ends l.out
    × (l.done.pairs ≡ length (over_first l.done.leaves l.leaves (g.T.RangeTable.pairs l.table)))
    × (l.done.pairs ≤ length l.out)
    × (length l.out ≡ length l.initial.out)
    × (length l.ends ≡ length l.initial.ends)
    × (l.count ≤ length l.leaves - l.done.leaves)

abbrev pub decreases-loop-count : goal.decreases-loop-count
decreases-loop-count g l = length l.leaves - l.done.leaves
