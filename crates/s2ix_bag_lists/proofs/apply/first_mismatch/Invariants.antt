use Rattle.s2ix_bag_lists.proofs.Walks.{Compared}
use Rattle.s2ix_bag_lists.proofs.apply.first_mismatch.Given as goal

abbrev pub invariant-loop-place : goal.invariant-loop-place
invariant-loop-place l = Compared l.held l.entries l.rest l.place
