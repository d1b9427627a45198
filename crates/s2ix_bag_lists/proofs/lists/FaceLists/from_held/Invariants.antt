use Rattle.s2ix_bag_lists.proofs.FaceByFace.{Putting}
use Rattle.s2ix_bag_lists.proofs.lists.FaceLists.from_held.Given as goal

abbrev pub invariant-loop-face : goal.invariant-loop-face
invariant-loop-face l = Putting l.held l.face l.lists l.rest
