use Rattle.std.proofs.Common.{subst, subst₂, sym}
use Rattle.s2ix_bag_pairs.specs.Collection.{Collection}
use Rattle.s2ix_table_spans.specs.SpanTable.{IsInSpan}
use Rattle.s2ix_table_parts.proofs.InSpans.{face_in_span}
use Rattle.s2ix_table_parts.proofs.change.face_after.Face.plain_parts_after.Goals as goal

pub changed_parts-requires-clause-span : goal.changed_parts-requires-clause-span
changed_parts-requires-clause-span c =
    subst (λ (hs : Collection). IsInSpan hs c.face_begin-from.result c.face_begin-to.result) (sym c.parts.ensures.list)
    (subst₂ (IsInSpan c.args.held.now) (sym c.face_begin-from.ensures) (sym c.face_begin-to.ensures)
    (face_in_span c.args.self.face c.args.held.now c.requires.on_face))
