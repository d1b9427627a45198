use Rattle.std.proofs.Common.{◌≡◌, ◌<◌, ◌≤◌, ◌*◌, ℕ, List, [], ◌∷◌, ◌++◌, drop, get_or, length, refl, sym, ap, ◌∙◌, subst, subst₂, arith, rules}
use Rattle.std.proofs.lemmas.List.{get_or_default, length-drop, map-append}
use Rattle.std.specs.Arc.{arc_value}
use Rattle.s2ix_bag_lists.specs.Faces.{all_of}
use Rattle.s2ix_bag_lists.specs.View.{lists_in}
use Rattle.s2ix_bag_pairs.specs.Collection.{Collection, IsCollection}
use Rattle.s2ix_table_spans.specs.SpanTable.{IsInSpan}
use Rattle.s2ix_table_parts.specs.FaceSpans.{tables_of}
use Rattle.s2ix_table_parts.proofs.Parting.{seams_count, parting_start, parting_next, parting_same, parting_end, own_rises, own_count}
use Rattle.s2ix_table_parts.proofs.parts.parts_over.Goals as goal

pub loop-start-init : goal.loop-start-init
loop-start-init c =
    let r = c.requires in
    let seams = c.in_ok-all_seams.all_seams.items in
    let parting =
    parting_same (lists_in c.args.held) c.args.from c.args.to [] (tables_of c.in_ok-parts.parts.items) (lists_in c.args.held) (lists_in c.args.held) seams
    c.as_slice-seams.result.now c.args.from c.args.from
    (parting_start (lists_in c.args.held) c.args.from c.args.to seams r.rises r.within_limit r.span c.in_ok-all_seams.ensures)
    (ap tables_of c.in_ok-parts.ensures.items) refl c.as_slice-seams.ensures.value refl in
    (parting, subst (λ n. n ≤ 1000000) c.len.ensures.number c.len.ensures.within_limit)

pub bounds-seams-count : goal.bounds-seams-count
bounds-seams-count c =
    let many = seams_count (lists_in c.loop-start.rest) c.loop-start.seams.now c.args.to c.loop-start.invariant.0.seams in
    let within = c.next_cut-count.ensures.within in
    omega arith

pub offset_bounds-seams-count : goal.offset_bounds-seams-count
offset_bounds-seams-count c =
    let within = c.next_cut-count.ensures.within in
    let few = c.loop-start.invariant.1 in
    let lt : c.next_cut-count.result * 8 < 18446744073709551616 = omega arith in
    search (rules, lt)

pub split_at-requires-in-loop-start : goal.split_at-requires-in-loop-start
split_at-requires-in-loop-start c =
    let many = seams_count (lists_in c.loop-start.rest) c.loop-start.seams.now c.args.to c.loop-start.invariant.0.seams in
    let within = c.next_cut-count.ensures.within in
    omega arith

pub part_over-requires-clause-rises : goal.part_over-requires-clause-rises
part_over-requires-clause-rises c =
    subst (λ (ls : List Collection). IsCollection (all_of ls)) (sym c.split_at.ensures.front)
    (own_rises 0 c.next_cut-count.result (lists_in c.loop-start.rest) c.loop-start.invariant.0.rises)

pub part_over-requires-clause-within_limit : goal.part_over-requires-clause-within_limit
part_over-requires-clause-within_limit c =
    let count = own_count c.next_cut-count.result (lists_in c.loop-start.rest) in
    let within_limit = c.loop-start.invariant.0.within_limit in
    let same = ap (λ (ls : List Collection). length (all_of ls)) c.split_at.ensures.front in
    omega arith

pub part_over-requires-clause-span : goal.part_over-requires-clause-span
part_over-requires-clause-span c =
    let bs = c.loop-start.seams.now in
    let k = c.next_cut-count.result in
    let many = seams_count (lists_in c.loop-start.rest) bs c.args.to c.loop-start.invariant.0.seams in
    let within = c.next_cut-count.ensures.within in
    let read : get_or bs k c.args.to ≡ get_or bs k 0 = get_or_default bs k c.args.to 0 (omega arith) in
    subst₂ (λ (ls : List Collection) (n : ℕ). IsInSpan (all_of ls) c.loop-start.start n) (sym c.split_at.ensures.front) read
    c.next_cut-count.ensures.span

pub loop-start-preserved : goal.loop-start-preserved
loop-start-preserved c =
    let was = c.loop-start.invariant.0 in
    let part = c.in_ok-part_over.field-0 in
    let k = c.next_cut-count.result in
    let rest = lists_in c.loop-start.rest in
    let bs = c.loop-start.seams.now in
    let parts = c.loop-start.parts.items in
    let made = c.in_ok-part_over.ensures in
    let next =
    parting_next (lists_in c.args.held) c.args.from c.args.to (tables_of parts) rest bs c.loop-start.start k 0 part.value was
    c.next_cut-count.ensures.within (made.pairs ∙ ap (λ (ls : List Collection). all_of ls) c.split_at.ensures.front) made.begins made.ends made.table in
    let tables : tables_of (parts ++ part ∷ []) ≡ tables_of parts ++ part.value ∷ [] = map-append arc_value parts (part ∷ []) in
    let parting =
    parting_same (lists_in c.args.held) c.args.from c.args.to (tables_of parts ++ part.value ∷ []) (tables_of c.push.new.self.items) (drop k rest)
    (lists_in c.split_at.result.1) (drop k bs) c.split_at-in-loop-start.result.1.now part.value.to (get_or bs k 0) next
    (ap tables_of c.in_ok-push.ensures.items ∙ tables) c.split_at.ensures.back c.split_at-in-loop-start.ensures.back made.ends in
    let fewer = length-drop k rest in
    let same = ap (λ (ls : List Collection). length ls) c.split_at.ensures.back in
    let few = c.loop-start.invariant.1 in
    (parting, omega arith)

pub returns-clause-neighbours : goal.returns-clause-neighbours
returns-clause-neighbours c =
    (parting_end (lists_in c.args.held) c.args.from c.args.to (tables_of c.loop-start.parts.items) (lists_in c.loop-start.rest) c.loop-start.seams.now
    c.loop-start.start c.loop-start.invariant.0 c.loop-start-test.false).0

pub returns-clause-pairs : goal.returns-clause-pairs
returns-clause-pairs c =
    (parting_end (lists_in c.args.held) c.args.from c.args.to (tables_of c.loop-start.parts.items) (lists_in c.loop-start.rest) c.loop-start.seams.now
    c.loop-start.start c.loop-start.invariant.0 c.loop-start-test.false).1
