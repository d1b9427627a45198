use Rattle.std.proofs.Common.{sym, ap, ◌∙◌, subst}
use Rattle.s2ix_bag_lists.specs.Faces.{all_of}
use Rattle.s2ix_bag_pairs.specs.Change.{changed}
use Rattle.s2ix_bag_pairs.specs.Collection.{Collection}
use Rattle.s2ix_table_parts.specs.FaceSpans.{AreOnFace, spans_of}
use Rattle.s2ix_table_parts.specs.Neighbours.{held_in}
use Rattle.s2ix_table_parts.specs.Layers.{joined_layers}
use Rattle.s2ix_table_parts.proofs.Layers.{joined_layers_none}
use Rattle.s2ix_table_parts.proofs.change.face_after.Face.after.Goals as goal

pub plain_parts_after-requires-clause-made : goal.plain_parts_after-requires-clause-made
plain_parts_after-requires-clause-made c =
    let f = c.args.self in
    let light = held_in (spans_of f.parts.now) in
    let none = c.is_empty.ensures.0 c.if-is_empty.true in
    let same = sym (ap (λ cs. joined_layers light (all_of cs)) none ∙ joined_layers_none light) in
    ap (λ (hs : Collection). changed hs c.args.entries.now) same ∙ c.requires.made

pub layers_after-requires-clause-on_face : goal.layers_after-requires-clause-on_face
layers_after-requires-clause-on_face c = subst (AreOnFace c.args.self.face) (sym c.requires.made) c.requires.on_face
