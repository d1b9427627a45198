-- A leaf has one before it.
use Rattle.std.proofs.Common.{◌≤◌, ◌-◌, length}
use Rattle.s2ix_table_faced.proofs.looking.are_rising.Given as goal

abbrev pub invariant-loop-k : goal.invariant-loop-k
invariant-loop-k l = 1 ≤ l.k

abbrev pub decreases-loop-k : goal.decreases-loop-k
decreases-loop-k l = length l.leaves - l.k
