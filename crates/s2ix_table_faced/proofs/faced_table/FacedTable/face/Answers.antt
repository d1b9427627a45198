use Rattle.std.proofs.Common.{ℕ, slice_index_or, [], subst, sym, ap, ◌∙◌, arith}
use Rattle.std.proofs.lemmas.List.{get_or_default}
use Rattle.s2ix_bag_lists.specs.Faces.{all_of}
use Rattle.s2ix_table_faced.specs.FirstParts.{of_face, parts_of_face}
use Rattle.s2ix_table_parts.specs.FaceSpans.{heavy_places_of, spans_of}
use Rattle.s2ix_table_parts.specs.Neighbours.{held_in}
use Rattle.s2ix_table_parts.specs.Layered.{IsFaceLayered}
use Rattle.s2ix_table_faced.specs.Layout.{chunks_on}
use Rattle.s2ix_table_parts.specs.Layers.{joined_layers}
use Rattle.s2ix_table_faced.proofs.TableFaces.{face_of_table}
use Rattle.s2ix_table_faced.proofs.faced_table.FacedTable.face.Goals as goal

pub returns-clause-layered : goal.returns-clause-layered
returns-clause-layered c =
    let t = c.args.self.now in
    let face = c.args.face in
    let at = c.from-at.ensures in
    let six = c.requires in
    let many = t.layered.six in
    let own = face_of_table face t.joined t.begins.firsts t.layered c.all_are_chunks.ensures six in
    let parts = c.parts_on.ensures.slice ∙ ap (parts_of_face (spans_of t.parts.items) t.begins.faces) at in
    let heavy_places = c.parts_on.ensures.heavy_places ∙ ap (λ (n : ℕ). of_face (heavy_places_of t.parts.items) t.begins.faces n) at in
    let heavy = get_or_default t.heavy c.from-at.result c.index-self-at.result [] (omega arith) ∙ ap (chunks_on t.heavy) at in
    subst (λ cs. IsFaceLayered face cs (spans_of c.parts_on.result.now) (heavy_places_of c.parts_on.result.now)) (sym heavy)
    (subst (λ ts. IsFaceLayered face (chunks_on t.heavy face) ts (heavy_places_of c.parts_on.result.now)) (sym parts)
    (subst (λ os. IsFaceLayered face (chunks_on t.heavy face) (parts_of_face (spans_of t.parts.items) t.begins.faces face) os) (sym heavy_places) own.layered))

pub returns-clause-pairs : goal.returns-clause-pairs
returns-clause-pairs c =
    let t = c.args.self.now in
    let face = c.args.face in
    let at = c.from-at.ensures in
    let six = c.requires in
    let many = t.layered.six in
    let own = face_of_table face t.joined t.begins.firsts t.layered c.all_are_chunks.ensures six in
    let parts = c.parts_on.ensures.slice ∙ ap (parts_of_face (spans_of t.parts.items) t.begins.faces) at in
    let heavy = get_or_default t.heavy c.from-at.result c.index-self-at.result [] (omega arith) ∙ ap (chunks_on t.heavy) at in
    ap (λ ts. joined_layers (held_in ts) (all_of (slice_index_or t.heavy c.from-at.result c.index-self-at.result))) parts
    ∙ ap (λ cs. joined_layers (held_in (parts_of_face (spans_of t.parts.items) t.begins.faces face)) (all_of cs)) heavy ∙ own.pairs
