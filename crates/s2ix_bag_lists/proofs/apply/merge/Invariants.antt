use Rattle.s2ix_bag_lists.proofs.Walks.{Merging}
use Rattle.s2ix_bag_lists.proofs.apply.merge.Given as goal

abbrev pub invariant-loop-entry : goal.invariant-loop-entry
invariant-loop-entry l = Merging l.held l.entries l.out.items l.rest l.entry-index
