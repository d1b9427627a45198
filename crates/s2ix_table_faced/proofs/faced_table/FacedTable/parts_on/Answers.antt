use Rattle.std.proofs.Common.{ℕ, ◌+◌, ◌-◌, List, take, drop, sym, ◌∙◌, ap, subst, rules}
use Rattle.s2ix_table_spans.specs.SpanTable.{SpanRanges}
use Rattle.s2ix_table_parts.specs.FaceSpans.{face_begin, heavy_places_of, spans_of}
use Rattle.s2ix_table_parts.specs.Neighbours.{held_in, AreNeighbours}
use Rattle.s2ix_table_faced.proofs.FirstParts.{face_parts, first_of_face}
use Rattle.s2ix_table_parts.proofs.Shared.{heavy_places_between, spans_between}
use Rattle.s2ix_table_faced.proofs.faced_table.FacedTable.parts_on.Goals as goal

pub slice_bounds-result-count : goal.slice_bounds-result-count
slice_bounds-result-count c = (face_parts c.args.face c.args.self.now.joined c.args.self.now.begins.firsts c.requires).rise

pub slice_bounds-result-start : goal.slice_bounds-result-start
slice_bounds-result-start c =
    let rise = (face_parts c.args.face c.args.self.now.joined c.args.self.now.begins.firsts c.requires).rise in
    search (rules, rise)

pub returns-clause-neighbours : goal.returns-clause-neighbours
returns-clause-neighbours c =
    let t = c.args.self.now in
    let faces = t.begins.faces in
    let first = first_of_face faces c.args.face in
    let n : ℕ = first_of_face faces (c.args.face + 1) - first in
    let same = ap (λ ts. spans_of (take n (drop first ts))) c.deref.ensures.value ∙ spans_between first n t.parts.items in
    subst (λ (ts : List SpanRanges). AreNeighbours (face_begin c.args.face) ts (face_begin (c.args.face + 1))) (sym same)
    (face_parts c.args.face t.joined t.begins.firsts c.requires).neighbours

pub returns-clause-pairs : goal.returns-clause-pairs
returns-clause-pairs c =
    let t = c.args.self.now in
    let faces = t.begins.faces in
    let first = first_of_face faces c.args.face in
    let n : ℕ = first_of_face faces (c.args.face + 1) - first in
    let same = ap (λ ts. spans_of (take n (drop first ts))) c.deref.ensures.value ∙ spans_between first n t.parts.items in
    ap (λ (ts : List SpanRanges). held_in ts) same ∙ (face_parts c.args.face t.joined t.begins.firsts c.requires).pairs

pub returns-clause-slice : goal.returns-clause-slice
returns-clause-slice c =
    let t = c.args.self.now in
    let faces = t.begins.faces in
    let first = first_of_face faces c.args.face in
    let n : ℕ = first_of_face faces (c.args.face + 1) - first in
    ap (λ ts. spans_of (take n (drop first ts))) c.deref.ensures.value ∙ spans_between first n t.parts.items

pub returns-clause-heavy_places : goal.returns-clause-heavy_places
returns-clause-heavy_places c =
    let t = c.args.self.now in
    let faces = t.begins.faces in
    let first = first_of_face faces c.args.face in
    let n : ℕ = first_of_face faces (c.args.face + 1) - first in
    ap (λ ts. heavy_places_of (take n (drop first ts))) c.deref.ensures.value ∙ heavy_places_between first n t.parts.items
