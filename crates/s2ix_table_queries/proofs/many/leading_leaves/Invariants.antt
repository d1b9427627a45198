-- So many numbers are counted.
use Rattle.std.proofs.Common.{◌-◌, ◌≤◌, length}
use Rattle.s2ix_table_queries.proofs.many.leading_leaves.Given as goal

abbrev pub invariant-loop-count : goal.invariant-loop-count
invariant-loop-count l = l.count ≤ length l.numbers

abbrev pub decreases-loop-count : goal.decreases-loop-count
decreases-loop-count l = length l.numbers - l.count
