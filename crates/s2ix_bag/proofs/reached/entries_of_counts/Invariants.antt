-- What was pushed and what is still to come make up the whole.
use Rattle.std.proofs.Common.{◌≡◌, ◌++◌}
use Rattle.s2ix_bag.proofs.CountsSet.{entries_of}
use Rattle.s2ix_bag.proofs.reached.entries_of_counts.Given as goal

abbrev pub invariant-loop-pair : goal.invariant-loop-pair
invariant-loop-pair l = l.out.items ++ entries_of l.bag.held l.pair-iterator ≡ entries_of l.bag.held l.counts.entries
