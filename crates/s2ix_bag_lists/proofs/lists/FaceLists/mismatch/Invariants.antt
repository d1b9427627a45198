use Rattle.s2ix_bag_lists.proofs.FaceByFace.{FacesCompared}
use Rattle.s2ix_bag_lists.proofs.lists.FaceLists.mismatch.Given as goal

abbrev pub invariant-loop-face : goal.invariant-loop-face
invariant-loop-face l = FacesCompared l.self-inside.lists l.entries l.face l.rest l.passed
