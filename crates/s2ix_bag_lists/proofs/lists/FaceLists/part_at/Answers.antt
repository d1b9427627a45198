-- The part is one of the face.
use Rattle.s2ix_bag_lists.proofs.FaceParts.{part_inside}
use Rattle.s2ix_bag_lists.proofs.lists.FaceLists.part_at.Goals as goal

pub returns : goal.returns
returns c =
    part_inside c.args.self.now c.face_at-before_face.result.1.now c.part_at-before.result.1.now c.args.place
    c.face_at-before_face.result.0 c.part_at-before.result.0 c.face_at-before_face.ensures.begins c.face_at-before_face.ensures.part
    c.part_at-before.ensures
