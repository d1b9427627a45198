use Rattle.std.proofs.Common.{sym, ◌∙◌}
use Rattle.s2ix_table_parts.specs.FaceSpans.{heavy_places_of, spans_of}
use Rattle.s2ix_table_parts.proofs.FaceWith.{all_given}
use Rattle.s2ix_table_parts.proofs.Shared.{length_heavy_places_of, many_shared}
use Rattle.s2ix_table_parts.proofs.change.face_after.Face.made_anew.Goals as goal

pub returns-clause-new_face : goal.returns-clause-new_face
returns-clause-new_face c =
    let f = c.args.self in
    let new = c.in_ok-new.new in
    let are = c.in_ok-new.ensures in
    all_given f.face _ new.first new.end c.args.held.now (spans_of f.parts.now) (spans_of new.parts.items) (heavy_places_of f.parts.now) (heavy_places_of new.parts.items) new.heavy
    are.first are.end (sym (many_shared f.parts.now)) (length_heavy_places_of f.parts.now ∙ sym (many_shared f.parts.now)) are.layered are.pairs
