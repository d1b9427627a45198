-- One part more, under the heavy pairs.
use Rattle.std.proofs.Common.{◌≡◌, ◌<◌, ◌≤◌, None, [], ◌∷◌, ◌++◌, length, sym, ap, ◌∙◌, arith, rules, subst}
use Rattle.s2ix_bag_pairs.specs.Collection.{Collection, IsCollection}
use Rattle.s2ix_table_spans.specs.SpanTable.{IsInSpan, SpanRanges}
use Rattle.s2ix_table_parts.specs.FaceSpans.{no_table, heavy_places_of, spans_of, table_of}
use Rattle.s2ix_table_parts.specs.Layered.{AreLightParts}
use Rattle.s2ix_table_parts.proofs.Neighbours.{span_known}
use Rattle.s2ix_table_parts.proofs.Shared.{many_shared, heavy_places_more, seen_at, spans_append}
use Rattle.s2ix_table_parts.proofs.UnderParts.{end_is, one_laid, part_is, part_span, under_all, under_next, under_start}
use Rattle.s2ix_table_parts.proofs.change.heavy_after.parts_under.Goals as goal
use Rattle.s2ix_table_parts.proofs.change.heavy_after.parts_under.Goals.{then-known-end+in_ok-shared+in_ok-laid+in-Some+in_ok-put_laid, else-known-end+in_ok-with_heavy_place+in_ok-push}

pub loop-k-init : goal.loop-k-init
loop-k-init c =
    under_start c.args.heavy c.args.from (spans_of c.args.parts.now) (spans_of c.in_ok-made.made.items) (heavy_places_of c.in_ok-made.made.items) None
    (ap spans_of c.in_ok-made.ensures.items) (ap heavy_places_of c.in_ok-made.ensures.items)

pub over_from-known-requires-clause-known : goal.over_from-known-requires-clause-known
over_from-known-requires-clause-known c = c.loop-k.invariant.known

pub over_from-known-requires-clause-odd : goal.over_from-known-requires-clause-odd
over_from-known-requires-clause-odd c =
    let ts = spans_of c.args.parts.now in
    let many = many_shared c.args.parts.now in
    let lt : c.loop-k.k < length ts = omega arith in
    (part_is c.args.heavy c.args.from ts c.args.to (spans_of c.loop-k.made.items) (heavy_places_of c.loop-k.made.items) c.loop-k.known.0 c.loop-k.known.1
    c.loop-k.begin c.loop-k.k c.end_of-end.result c.loop-k.invariant c.requires.neighbours c.requires.leaves lt
    (end_is c.loop-k.k c.args.from c.end_of-end.result ts c.args.to c.requires.neighbours lt c.end_of-end.ensures.next c.end_of-end.ensures.last)).odd

pub over_from-known-requires-clause-some : goal.over_from-known-requires-clause-some
over_from-known-requires-clause-some c =
    let ts = spans_of c.args.parts.now in
    let many = many_shared c.args.parts.now in
    let lt : c.loop-k.k < length ts = omega arith in
    (part_is c.args.heavy c.args.from ts c.args.to (spans_of c.loop-k.made.items) (heavy_places_of c.loop-k.made.items) c.loop-k.known.0 c.loop-k.known.1
    c.loop-k.begin c.loop-k.k c.end_of-end.result c.loop-k.invariant c.requires.neighbours c.requires.leaves lt
    (end_is c.loop-k.k c.args.from c.end_of-end.result ts c.args.to c.requires.neighbours lt c.end_of-end.ensures.next c.end_of-end.ensures.last)).some

pub over_from-known-requires-clause-leaves : goal.over_from-known-requires-clause-leaves
over_from-known-requires-clause-leaves c =
    let ts = spans_of c.args.parts.now in
    let many = many_shared c.args.parts.now in
    let lt : c.loop-k.k < length ts = omega arith in
    (part_is c.args.heavy c.args.from ts c.args.to (spans_of c.loop-k.made.items) (heavy_places_of c.loop-k.made.items) c.loop-k.known.0 c.loop-k.known.1
    c.loop-k.begin c.loop-k.k c.end_of-end.result c.loop-k.invariant c.requires.neighbours c.requires.leaves lt
    (end_is c.loop-k.k c.args.from c.end_of-end.result ts c.args.to c.requires.neighbours lt c.end_of-end.ensures.next c.end_of-end.ensures.last)).ends

pub over_spans-requires-clause-leaves : goal.over_spans-requires-clause-leaves
over_spans-requires-clause-leaves c =
    let ts = spans_of c.args.parts.now in
    let many = many_shared c.args.parts.now in
    let lt : c.loop-k.k < length ts = omega arith in
    (part_is c.args.heavy c.args.from ts c.args.to (spans_of c.loop-k.made.items) (heavy_places_of c.loop-k.made.items) c.loop-k.known.0 c.loop-k.known.1
    c.loop-k.begin c.loop-k.k c.end_of-end.result c.loop-k.invariant c.requires.neighbours c.requires.leaves lt
    (end_is c.loop-k.k c.args.from c.end_of-end.result ts c.args.to c.requires.neighbours lt c.end_of-end.ensures.next c.end_of-end.ensures.last)).ends

pub over_spans-requires-clause-rises : goal.over_spans-requires-clause-rises
over_spans-requires-clause-rises c =
    let ts = spans_of c.args.parts.now in
    let many = many_shared c.args.parts.now in
    let lt : c.loop-k.k < length ts = omega arith in
    let held = c.held-held.ensures ∙ ap (λ (s : SpanRanges). s.held)
    (seen_at c.args.parts.now c.loop-k.k c.index-parts-k.result c.table.result.now (omega (arith, many, lt))
    (c.table.ensures ∙ ap (λ x. x.table) c.index-parts-k.is)) in
    subst (λ (hs : Collection). IsCollection hs) (sym held) (span_known c.args.from ts c.args.to c.loop-k.k no_table c.requires.neighbours lt).rises

pub over_spans-requires-clause-within_limit : goal.over_spans-requires-clause-within_limit
over_spans-requires-clause-within_limit c =
    let ts = spans_of c.args.parts.now in
    let many = many_shared c.args.parts.now in
    let lt : c.loop-k.k < length ts = omega arith in
    let held = c.held-held.ensures ∙ ap (λ (s : SpanRanges). s.held)
    (seen_at c.args.parts.now c.loop-k.k c.index-parts-k.result c.table.result.now (omega (arith, many, lt))
    (c.table.ensures ∙ ap (λ x. x.table) c.index-parts-k.is)) in
    subst (λ (hs : Collection). length hs ≤ 1000000) (sym held) (span_known c.args.from ts c.args.to c.loop-k.k no_table c.requires.neighbours lt).within_limit

pub over_spans-requires-clause-span : goal.over_spans-requires-clause-span
over_spans-requires-clause-span c =
    let ts = spans_of c.args.parts.now in
    let many = many_shared c.args.parts.now in
    let lt : c.loop-k.k < length ts = omega arith in
    let held = c.held-held.ensures ∙ ap (λ (s : SpanRanges). s.held)
    (seen_at c.args.parts.now c.loop-k.k c.index-parts-k.result c.table.result.now (omega (arith, many, lt))
    (c.table.ensures ∙ ap (λ x. x.table) c.index-parts-k.is)) in
    subst (λ (hs : Collection). IsInSpan hs c.loop-k.begin c.end_of-end.result) (sym held)
    (part_span c.args.from ts c.args.to c.loop-k.begin c.loop-k.k c.end_of-end.result c.requires.neighbours lt c.loop-k.invariant.begins
    (end_is c.loop-k.k c.args.from c.end_of-end.result ts c.args.to c.requires.neighbours lt c.end_of-end.ensures.next c.end_of-end.ensures.last))

pub loop-k-preserved : goal.loop-k-preserved
loop-k-preserved c =
    let ts = spans_of c.args.parts.now in
    let many = many_shared c.args.parts.now in
    let k = c.loop-k.k in
    let lt : k < length ts = omega arith in
    let begin = c.loop-k.begin in
    let end = c.end_of-end.result in
    let over = c.over_from-known.result.0 in
    let until = c.over_from-known.result.1 in
    let are = c.requires.neighbours in
    let at = end_is k c.args.from end ts c.args.to are lt c.end_of-end.ensures.next c.end_of-end.ensures.last in
    let was = c.loop-k.invariant in
    let is = c.over_from-known.ensures in
    let made = c.loop-k.made.items in
    let now = c.if-known-end.made.items in
    elim c.if-known-end.branch [
      | then-known-end+in_ok-shared+in_ok-laid+in-Some+in_ok-put_laid w ↦
          (let laid = w.in-Some.laid in
          let shared : w.in_ok-shared.shared ≡ c.args.heavy = search rules in
          let held = w.held-held.ensures ∙ ap (λ (s : SpanRanges). s.held)
          (seen_at c.args.parts.now k w.index-parts-k.result w.table.result.now (omega (arith, many, lt))
          (w.table.ensures ∙ ap (λ x. x.table) w.index-parts-k.is)) in
          let parts : AreLightParts w.in_ok-shared.shared w.held-held.result.now begin (spans_of laid.parts.items) (heavy_places_of laid.parts.items) end = search rules in
          let put = ap (λ v. v.items) w.made-is ∙ w.in_ok-put_laid.ensures in
          under_next c.args.heavy c.args.from ts c.args.to (spans_of made) (spans_of laid.parts.items) (spans_of now) (heavy_places_of made)
          (heavy_places_of laid.parts.items) (heavy_places_of now) c.loop-k.known.0 over c.loop-k.known.1 until begin k end was are c.requires.leaves lt at is
          (subst (λ (hs : Collection). AreLightParts c.args.heavy hs begin (spans_of laid.parts.items) (heavy_places_of laid.parts.items) end) held
          (subst (λ cs. AreLightParts cs w.held-held.result.now begin (spans_of laid.parts.items) (heavy_places_of laid.parts.items) end) shared parts))
          (ap (λ ps. spans_of ps) put ∙ spans_append made laid.parts.items) (ap (λ ps. heavy_places_of ps) put ∙ heavy_places_more made laid.parts.items))
      | else-known-end+in_ok-with_heavy_place+in_ok-push w ↦
          (let part = w.in_ok-with_heavy_place.field-0 in
          let seen = w.in_ok-with_heavy_place.ensures.table
          ∙ seen_at c.args.parts.now k w.index-parts-k-else-known-end.result w.index-parts-k-else-known-end.result.table (omega (arith, many, lt))
          (ap (λ x. x.table) w.index-parts-k-else-known-end.is) in
          let put = ap (λ v. v.items) w.made-is ∙ w.in_ok-push.ensures.items in
          under_next c.args.heavy c.args.from ts c.args.to (spans_of made) (table_of ts k ∷ []) (spans_of now) (heavy_places_of made) (over ∷ []) (heavy_places_of now)
          c.loop-k.known.0 over c.loop-k.known.1 until begin k end was are c.requires.leaves lt at is
          (one_laid c.args.heavy c.args.from ts c.args.to begin k end until over are lt was.begins at is w.if-known-end.false)
          (ap (λ ps. spans_of ps) put ∙ spans_append made (part ∷ []) ∙ ap (λ (s : SpanRanges). spans_of made ++ s ∷ []) seen)
          (ap (λ ps. heavy_places_of ps) put ∙ heavy_places_more made (part ∷ []) ∙ ap (λ o. heavy_places_of made ++ o ∷ []) w.in_ok-with_heavy_place.ensures.heavy_place))
    ]

pub returns-clause-parts : goal.returns-clause-parts
returns-clause-parts c =
    let ts = spans_of c.args.parts.now in
    let many = many_shared c.args.parts.now in
    under_all c.args.heavy c.args.from ts c.args.to (spans_of c.loop-k.made.items) (heavy_places_of c.loop-k.made.items) c.loop-k.known.0 c.loop-k.known.1
    c.loop-k.begin c.loop-k.k c.loop-k.invariant c.requires.neighbours (omega arith)
