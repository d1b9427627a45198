use Rattle.std.proofs.Common.{◌≡◌, ◌+◌, length, refl, sym, ap, ◌∙◌, subst, subst₂, rules}
use Rattle.s2ix_bag_lists.specs.Faces.{all_of}
use Rattle.s2ix_bag_pairs.specs.Change.{changed}
use Rattle.s2ix_table_heavy.specs.Chunks.{AreChunks}
use Rattle.s2ix_table_parts.specs.FaceSpans.{face_begin, heavy_places_of, spans_of}
use Rattle.s2ix_table_parts.specs.Neighbours.{held_in}
use Rattle.s2ix_table_parts.specs.Layered.{AreLightParts}
use Rattle.s2ix_table_parts.proofs.HeavyChanged.{under_chunks}
use Rattle.s2ix_table_parts.proofs.Shared.{many_shared}
use Rattle.s2ix_table_parts.proofs.change.face_after.Face.heavy_after.Goals as goal

pub returns-clause-new_face : goal.returns-clause-new_face
returns-clause-new_face c =
    let f = c.args.self in
    let es = c.args.entries.now in
    let ts = spans_of f.parts.now in
    let many = length f.parts.now in
    let chunks = c.in_ok-chunks.chunks.items in
    let heavy : c.in_ok-heavy.heavy ≡ chunks = c.in_ok-heavy.ensures in
    let face_parts = c.in-Some.face_parts in
    let made = spans_of face_parts.parts.items in
    let same : face_parts.heavy ≡ c.in_ok-heavy.heavy = search rules in
    let laid : AreLightParts c.in_ok-heavy.heavy (held_in ts) c.face_begin-from.result made (heavy_places_of face_parts.parts.items)
    c.face_begin-to.result = search rules in
    let on_face : AreLightParts c.in_ok-heavy.heavy (held_in ts) (face_begin f.face) made (heavy_places_of face_parts.parts.items) (face_begin (f.face + 1)) =
    subst₂ (λ a b. AreLightParts c.in_ok-heavy.heavy (held_in ts) a made (heavy_places_of face_parts.parts.items) b)
    c.face_begin-from.ensures c.face_begin-to.ensures laid in
    under_chunks f.face many 0 many ts made (heavy_places_of f.parts.now) (heavy_places_of face_parts.parts.items) f.heavy.now face_parts.heavy es refl refl (sym (many_shared f.parts.now))
    c.requires.layered c.requires.entries_rise c.requires.apart c.requires.on_face (subst AreChunks (sym (same ∙ heavy)) c.in_ok-chunks.ensures.chunks)
    (ap all_of (same ∙ heavy) ∙ c.in_ok-chunks.ensures.pairs ∙ ap (λ cs. changed (all_of cs) es) c.chunks.ensures)
    (subst (λ cs. AreLightParts cs (held_in ts) (face_begin f.face) made (heavy_places_of face_parts.parts.items) (face_begin (f.face + 1))) (sym same) on_face)
