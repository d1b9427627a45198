-- The lists that were passed hold what stands before the list at hand.
use Rattle.s2ix_bag_lists.proofs.FaceAt.{IsPassed}
use Rattle.s2ix_bag_lists.proofs.lists.FaceLists.face_at.Given as goal

abbrev pub invariant-loop-list : goal.invariant-loop-list
invariant-loop-list l = IsPassed l.list-items l.place l.list-index l.before
