-- Offset by offset.
use Rattle.std.proofs.Common.{◌≡◌, ◌-◌, length, max, set, take, sym, ◌∙◌, ap, arith, subst}
use Rattle.std.proofs.lemmas.List.{length-set}
use Rattle.s2ix_table_spans.specs.SpanTable.{SpanRanges}
use Rattle.s2ix_table_parts.specs.FaceSpans.{spans_of}
use Rattle.s2ix_table_parts.specs.Neighbours.{held_in}
use Rattle.s2ix_table_faced.specs.Layout.{covered, heavy_in}
use Rattle.s2ix_table_parts.specs.Layers.{joined_layers}
use Rattle.s2ix_table_faced.specs.Offsets.{offset_at, offsets_of}
use Rattle.s2ix_table_faced.proofs.Laid.{laid_over, many_covered, same_count}
use Rattle.s2ix_table_faced.proofs.Moving.{behind_later, behind_set, counted_all, counted_first, last_few}
use Rattle.s2ix_table_faced.proofs.OneFace.{some_parts}
use Rattle.s2ix_table_faced.proofs.Reading.{first_offset}
use Rattle.s2ix_table_parts.proofs.Shared.{many_shared, seen_at}
use Rattle.s2ix_table_faced.proofs.Together.{all_counted}
use Rattle.s2ix_table_faced.proofs.layout.Layout.count_from.Goals as goal

pub loop-next-init : goal.loop-next-init
loop-next-init c =
    let parts = c.args.self.parts.now in
    let spans = spans_of parts in
    let heavy = heavy_in c.args.self.heavy.now in
    let shown = covered heavy spans in
    let many = many_covered heavy spans ∙ many_shared parts in
    let os = c.args.offsets.now in
    let within = c.requires.within in
    let some = some_parts spans c.requires.layout.neighbours in
    let own = many_shared parts in
    let is = c.max-next.ensures in
    let behind = behind_later c.args.end (max c.max-next.result c.args.end) os shown (omega arith) c.requires.behind in (
      omega (arith, is),
      omega (arith, is, within, some, own),
      length-set os 0 first_offset ∙ c.requires.same_length,
      subst (λ k. take k (set os 0 first_offset) ≡ take k (offsets_of shown)) (sym is)
          (counted_first shown os c.args.first (omega (arith, some, own, many)) (c.requires.same_length ∙ sym many) c.requires.before),
      behind_set (max c.max-next.result c.args.end) 0 first_offset os shown (omega (arith, is)) behind,
    )

pub overflow_add-result : goal.overflow_add-result
overflow_add-result c =
    let parts = c.args.self.parts.now in
    let spans = spans_of parts in
    let heavy = heavy_in c.args.self.heavy.now in
    let shown = covered heavy spans in
    let many = many_covered heavy spans ∙ many_shared parts in
    let n = c.loop-next.next in
    let i = c.loop-next.invariant in
    let some = i.0 in
    let within = i.1 in
    let own = many_shared parts in
    let last = seen_at parts (n - 1) c.index-self-next.result c.table.result.now (omega arith) c.table.ensures in
    let within_limit = last_few (joined_layers (held_in spans) heavy) shown c.loop-next.offsets n (laid_over c.requires.layout) c.requires.layout.within_limit some (omega arith) i.3 in
    let same = same_count heavy spans (n - 1) (omega arith) in
    omega (arith, within_limit, same, c.range_count.ensures, ap (λ (s : SpanRanges). length s.ranges) last)

pub returns-clause-offsets : goal.returns-clause-offsets
returns-clause-offsets c =
    let parts = c.args.self.parts.now in
    let spans = spans_of parts in
    let heavy = heavy_in c.args.self.heavy.now in
    let shown = covered heavy spans in
    let many = many_covered heavy spans ∙ many_shared parts in
    let i = c.loop-next.invariant in
    let test = c.loop-next-test.false in
    let within = i.1 in
    counted_all shown c.loop-next.offsets c.loop-next.next (omega (arith, test, within, many)) (i.2 ∙ sym many) i.3

pub returns-clause-count : goal.returns-clause-count
returns-clause-count c =
    let parts = c.args.self.parts.now in
    let spans = spans_of parts in
    let heavy = heavy_in c.args.self.heavy.now in
    let shown = covered heavy spans in
    let many = many_covered heavy spans ∙ many_shared parts in
    let n = c.loop-next.next in
    let i = c.loop-next.invariant in
    let test = c.loop-next-test.false in
    let some = i.0 in
    let within = i.1 in
    let own = many_shared parts in
    let last = seen_at parts (n - 1) c.index-self-next.result c.table.result.now (omega arith) c.table.ensures in
    let is = counted_all shown c.loop-next.offsets n (omega (arith, test, within, many)) (i.2 ∙ sym many) i.3 in
    let place = ap (λ os. (offset_at os (n - 1)).place) is in
    let count = c.range_count.ensures in
    let same = same_count heavy spans (n - 1) (omega arith) in
    let ranges = ap (λ (s : SpanRanges). length s.ranges) last in
    all_counted (joined_layers (held_in spans) heavy) shown (n - 1) _ (laid_over c.requires.layout) (omega (arith, test, within, some, many))
    (omega (arith, place, count, same, ranges))
