use Rattle.s2ix_bag_lists.proofs.FaceByFace.{Changing}
use Rattle.s2ix_bag_lists.proofs.lists.FaceLists.after.Given as goal

abbrev pub invariant-loop-face : goal.invariant-loop-face
invariant-loop-face l = Changing l.fn.self l.entries l.face l.lists l.rest
