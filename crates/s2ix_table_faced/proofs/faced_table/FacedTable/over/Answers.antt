use Rattle.std.proofs.Common.{None, get_or, sym, ◌∙◌, ap, arith}
use Rattle.std.proofs.lemmas.List.{get_or-map}
use Rattle.s2ix_table_spans.specs.SpanTable.{SpanRanges}
use Rattle.s2ix_table_parts.specs.FaceSpans.{TablePart, no_table, heavy_places_of, spans_of}
use Rattle.s2ix_table_faced.proofs.HeavyOnce.{over_there}
use Rattle.s2ix_table_parts.proofs.Shared.{many_shared, over_at}
use Rattle.s2ix_table_faced.proofs.faced_table.FacedTable.over.Goals as goal

pub index-requires : goal.index-requires
index-requires c =
    let t = c.args.self.now in
    let lt = c.requires in
    omega (arith, lt, many_shared t.parts.items, t.parts.ok.0)

pub returns-in-Some : goal.returns-in-Some
returns-in-Some c =
    let t = c.args.self.now in
    let spans = spans_of t.parts.items in
    let lt = c.requires in
    let many = many_shared t.parts.items in
    let start = c.index-2.ensures ∙ ap (λ ss. get_or ss c.args.part c.index-2.result.now) t.joined.starts_are
    ∙ get_or-map (λ (s : SpanRanges). s.from) spans c.args.part no_table c.index-2.result.now lt in
    let over = over_at t.parts.items c.args.part c.index.result.now c.heavy_place.result (omega arith) (c.heavy_place.ensures ∙ ap (λ (p : TablePart). p.heavy_place) c.index.ensures) in
    over_there spans t.heavy (heavy_places_of t.parts.items) c.args.part c.index-2.result.now c.heavy_place.result _ t.joined.neighbours t.layered lt start over
    (sym c.there.ensures ∙ c.in-Some.is)

pub returns-in-None : goal.returns-in-None
returns-in-None c =
    let t = c.args.self.now in
    let spans = spans_of t.parts.items in
    let lt = c.requires in
    let many = many_shared t.parts.items in
    let start = c.index-2.ensures ∙ ap (λ ss. get_or ss c.args.part c.index-2.result.now) t.joined.starts_are
    ∙ get_or-map (λ (s : SpanRanges). s.from) spans c.args.part no_table c.index-2.result.now lt in
    let over = over_at t.parts.items c.args.part c.index.result.now c.heavy_place.result (omega arith) (c.heavy_place.ensures ∙ ap (λ (p : TablePart). p.heavy_place) c.index.ensures) in
    over_there spans t.heavy (heavy_places_of t.parts.items) c.args.part c.index-2.result.now c.heavy_place.result None t.joined.neighbours t.layered lt start over
    (sym c.there.ensures ∙ c.in-None.is)
