use Rattle.s2ix_table_parts.proofs.change.face_after.Face.light_after.Goals as goal

pub touched_after-requires-clause-light : goal.touched_after-requires-clause-light
touched_after-requires-clause-light c = c.are_light.ensures.0 c.if-not-are_light.false
