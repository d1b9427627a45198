use Rattle.std.proofs.Common.{◌*◌, [], ◌++◌, drop, length, replicate, refl, sym, ap, ◌∙◌, subst, arith}
use Rattle.s2ix_bag_pairs.specs.Collection.{Collection, IsCollection}
use Rattle.s2ix_bag_pairs.proofs.Counts.{from_lower}
use Rattle.s2ix_table_spans.specs.SpanTable.{IsInSpan}
use Rattle.s2ix_table_parts.specs.FaceSpans.{heavy_places_of, spans_of, tables_of}
use Rattle.s2ix_table_parts.specs.Parts.{BeginsFrom, EndsBy}
use Rattle.s2ix_table_parts.proofs.Layering.{layering_start, layering_next, layering_end, layering_same, own_span, own_rises, own_few}
use Rattle.s2ix_table_parts.proofs.face_parts.over_spans.Goals as goal

pub loop-start-init : goal.loop-start-init
loop-start-init c =
    let light = c.args.light.now in
    layering_same c.args.heavy light c.args.from c.args.to [] (spans_of c.new-parts.result.items) [] (heavy_places_of c.new-parts.result.items)
    light light c.args.from (layering_start c.args.heavy light c.args.from c.args.to c.requires.rises c.requires.within_limit c.requires.span)
    (ap spans_of c.new-parts.ensures.items) (ap heavy_places_of c.new-parts.ensures.items) refl

pub first_over-over-requires-clause-odd : goal.first_over-over-requires-clause-odd
first_over-over-requires-clause-odd c = c.loop-start.invariant.odd

pub count_below-requires : goal.count_below-requires
count_below-requires c = from_lower 0 (c.loop-start.start * 2147483648) c.loop-start.rest.now (omega arith) c.loop-start.invariant.rises

pub light_tables-requires-clause-rises : goal.light_tables-requires-clause-rises
light_tables-requires-clause-rises c =
    subst (λ (hs : Collection). IsCollection hs) (sym c.split_at.ensures.front)
    (own_rises c.args.heavy c.args.light.now c.args.from c.args.to (spans_of c.loop-start.parts.items) (heavy_places_of c.loop-start.parts.items)
    c.loop-start.rest.now c.loop-start.start c.count_below.result c.loop-start.invariant)

pub light_tables-requires-clause-within_limit : goal.light_tables-requires-clause-within_limit
light_tables-requires-clause-within_limit c =
    let within_limit = own_few c.count_below.result c.loop-start.rest.now c.loop-start.invariant.within_limit in
    let same = ap (λ (hs : Collection). length hs) c.split_at.ensures.front in
    omega arith

pub light_tables-requires-clause-span : goal.light_tables-requires-clause-span
light_tables-requires-clause-span c =
    let k = c.count_below.result in
    let front = c.split_at.ensures.front in
    let start = c.loop-start.start in
    let end = c.min-end.result in
    let is = c.min-end.ensures in
    let some = c.loop-start-test.true in
    let odd_until = c.first_over-over.ensures.odd in
    let after = c.first_over-over.ensures.after in
    let odd_to = c.requires.span.odd_end in
    subst (λ (hs : Collection). IsInSpan hs start end) (sym front)
    (own_span c.args.heavy c.args.light.now c.args.from c.args.to (spans_of c.loop-start.parts.items) (heavy_places_of c.loop-start.parts.items)
    c.loop-start.rest.now start end c.least_begin.result c.greatest_end.result k c.loop-start.invariant (omega arith) (omega arith)
    (subst (λ (hs : Collection). BeginsFrom hs c.least_begin.result) front c.least_begin.ensures.begins) c.if-least_begin-start.false
    (subst (λ (hs : Collection). EndsBy hs c.greatest_end.result) front c.greatest_end.ensures.ends) c.if-greatest_end-end.false)

pub loop-start-preserved : goal.loop-start-preserved
loop-start-preserved c =
    let heavy = c.args.heavy in
    let light = c.args.light.now in
    let parts = c.loop-start.parts.items in
    let made = tables_of c.in_ok-tables.tables.items in
    let rest = c.loop-start.rest.now in
    let k = c.count_below.result in
    let start = c.loop-start.start in
    let end = c.min-end.result in
    let over = c.first_over-over.result.0 in
    let until = c.first_over-over.result.1 in
    let is = c.min-end.ensures in
    let odd_until = c.first_over-over.ensures.odd in
    let odd_to = c.requires.span.odd_end in
    let tables = c.as_slice.ensures.value in
    let shared = c.in_ok-share_under.ensures in
    layering_same heavy light c.args.from c.args.to (spans_of parts ++ made) (spans_of c.share_under.new.parts.items)
    (heavy_places_of parts ++ replicate (length made) over) (heavy_places_of c.share_under.new.parts.items) (drop k rest) c.split_at.result.1.now end
    (layering_next heavy light c.args.from c.args.to (spans_of parts) made (heavy_places_of parts) rest start end until k over c.loop-start.invariant
    (record { leads = c.first_over-over.ensures.first; same = c.first_over-over.ensures.until }) (omega arith) (omega arith) (omega arith)
    c.in_ok-tables.ensures.neighbours (c.in_ok-tables.ensures.pairs ∙ c.split_at.ensures.front) c.count_below.ensures.rest)
    (shared.tables ∙ ap (λ ts. spans_of parts ++ tables_of ts) tables)
    (shared.heavy_places ∙ ap (λ ts. heavy_places_of parts ++ replicate (length (tables_of ts)) over) tables)
    c.split_at.ensures.back

pub returns-clause-parts : goal.returns-clause-parts
returns-clause-parts c =
    layering_end c.args.heavy c.args.light.now c.args.from c.args.to (spans_of c.loop-start.parts.items) (heavy_places_of c.loop-start.parts.items)
    c.loop-start.rest.now c.loop-start.start c.loop-start.invariant c.loop-start-test.false
