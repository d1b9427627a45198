-- The entries so far rise.
use Rattle.s2ix_bag_lists.proofs.Unsorted.{RiseSoFar}
use Rattle.s2ix_bag_lists.proofs.entries.unsorted_place.Given as goal

abbrev pub invariant-loop-place : goal.invariant-loop-place
invariant-loop-place l = RiseSoFar l.entries l.place l.last
