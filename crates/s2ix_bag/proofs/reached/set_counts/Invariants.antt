use Rattle.s2ix_bag.proofs.CountsSet.{AreSet}
use Rattle.s2ix_bag.proofs.reached.set_counts.Given as goal

abbrev pub invariant-loop-entry : goal.invariant-loop-entry
invariant-loop-entry l = AreSet l.fn.counts.entries l.entries l.counts.entries l.entry-index
