use Rattle.std.proofs.Common.{length, None, replicate, sym, ap, ◌∙◌, subst}
use Rattle.s2ix_table_parts.specs.FaceSpans.{heavy_places_of, spans_of, tables_of}
use Rattle.s2ix_table_parts.specs.Neighbours.{held_in}
use Rattle.s2ix_table_parts.specs.Layered.{IsFaceWith}
use Rattle.s2ix_table_parts.specs.Parts.{with_parts}
use Rattle.s2ix_table_parts.proofs.FaceWith.{light_with}
use Rattle.s2ix_table_parts.proofs.Shared.{alone_heavy_places, alone_spans}
use Rattle.s2ix_table_parts.proofs.change.face_after.Face.with_light.Goals as goal

pub returns-clause-new_face : goal.returns-clause-new_face
returns-clause-new_face c =
    let f = c.args.self in
    let new = c.args.new.now in
    let r = c.requires in
    let made = tables_of new.parts.items in
    let put = c.share_under.new.parts.items in
    let own = c.deref.ensures.value in
    let tables = alone_spans c.in_ok-parts.parts.items put (tables_of c.deref.result.now) c.in_ok-parts.ensures.items c.in_ok-share_under.ensures.tables
    ∙ ap tables_of own in
    let heavy_places = alone_heavy_places c.in_ok-parts.parts.items put _ c.in_ok-parts.ensures.items c.in_ok-share_under.ensures.heavy_places
    ∙ ap (λ ts. replicate (length (tables_of ts)) None) own in
    subst (λ ts. IsFaceWith f.face (held_in (with_parts (spans_of f.parts.now) new.first new.end made)) (spans_of f.parts.now) (heavy_places_of f.parts.now)
    new.first new.end ts (heavy_places_of put) c.none.result) (sym tables)
    (light_with f.face (spans_of f.parts.now) made (heavy_places_of f.parts.now) (heavy_places_of put) new.first new.end c.none.result r.layered r.order r.within
    r.neighbours heavy_places c.none.ensures)
