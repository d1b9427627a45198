-- The leaves so far are answered.
use Rattle.std.proofs.Common.{◌≡◌, ◌≤◌, length}
use Rattle.s2ix_table_queries.specs.ManyLeaves.{AreAnswered, over_first}
use Rattle.s2ix_table_queries.proofs.many.copy_answers.Given as goal

abbrev pub invariant-loop-rank : goal.invariant-loop-rank
invariant-loop-rank g l =
    AreAnswered g.R.OfHeld.of (g.T.RangeTable.pairs l.table) l.leaves l.done.leaves l.ends l.out
    × (l.done.pairs ≡ length (over_first l.done.leaves l.leaves (g.T.RangeTable.pairs l.table)))
    × (l.done.pairs ≤ length l.out)
