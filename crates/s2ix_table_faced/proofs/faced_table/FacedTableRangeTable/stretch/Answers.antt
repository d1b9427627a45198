use Rattle.std.proofs.Common.{◌≡◌, ℕ, ◌+◌, ◌-◌, ◌<◌, List, length, drop, sym, ◌∙◌, ap, arith, rules, subst}
use Rattle.std.proofs.lemmas.List.{length-map}
use Rattle.s2ix_table_walk.specs.Stretches.{IsSample, IsStretch}
use Rattle.s2ix_table_walk.specs.Table.{Range}
use Rattle.s2ix_table_faced.specs.declared.offset.Offset.{Offset}
use Rattle.s2ix_table_parts.specs.FaceSpans.{spans_of}
use Rattle.s2ix_table_faced.specs.Layout.{ranges_of}
use Rattle.s2ix_table_faced.proofs.Reading.{many_offsets, offset_read, ends_few}
use Rattle.s2ix_table_parts.proofs.Shared.{many_shared}
use Rattle.s2ix_table_faced.proofs.Stretches.{part_stretch, some_starts, rest_of}
use Rattle.s2ix_table_faced.proofs.faced_table.FacedTableRangeTable.stretch.Goals as goal

pub index-requires : goal.index-requires
index-requires c =
    let t = c.args.self.now in
    let lt = c.if-m-len.false in
    omega (arith, lt, c.len.ensures, many_shared t.parts.items, many_offsets t.joined, t.offsets.ok.0, t.parts.ok.0)

pub overflow_add-result : goal.overflow_add-result
overflow_add-result c =
    let t = c.args.self.now in
    let lt = c.if-m-len.false in
    let listed : c.args.m < length (spans_of t.parts.items) = omega (arith, lt, c.len.ensures, many_shared t.parts.items, t.parts.ok.0) in
    let read = offset_read c.args.m c.index.result.now t.joined listed c.index.ensures in
    omega (arith, ends_few c.args.m t.joined listed, ap (λ (o : Offset). o.place) read)

pub slice_bounds-result-count : goal.slice_bounds-result-count
slice_bounds-result-count c =
    let t = c.args.self.now in
    let lt = c.if-m-len.false in
    let listed : c.args.m < length (spans_of t.parts.items) = omega (arith, lt, c.len.ensures, many_shared t.parts.items, t.parts.ok.0) in
    some_starts c.args.m c.span-span.result.now c.starts-starts.result.now t.joined listed c.span-span.ensures c.starts-starts.ensures

pub slice_bounds-result-start : goal.slice_bounds-result-start
slice_bounds-result-start c =
    let t = c.args.self.now in
    let lt = c.if-m-len.false in
    let listed : c.args.m < length (spans_of t.parts.items) = omega (arith, lt, c.len.ensures, many_shared t.parts.items, t.parts.ok.0) in
    let some = some_starts c.args.m c.span-span.result.now c.starts-starts.result.now t.joined listed c.span-span.ensures c.starts-starts.ensures in
    search (rules, some)

pub returns-clause-stretch : goal.returns-clause-stretch
returns-clause-stretch c =
    let t = c.args.self.now in
    let lt = c.if-m-len.false in
    let listed : c.args.m < length (spans_of t.parts.items) = omega (arith, lt, c.len.ensures, many_shared t.parts.items, t.parts.ok.0) in
    let ranges = ranges_of t.parts.items t.heavy in
    let starts = c.starts-starts.result.now in
    let read = offset_read c.args.m c.index.result.now t.joined listed c.index.ensures in
    let stretch = part_stretch c.args.m c.span-span.result.now starts t.joined listed c.span-span.ensures c.starts-starts.ensures in
    let count : c.saturating_sub.result ≡ length starts - 2 = c.saturating_sub.ensures in
    subst (λ xs. IsStretch ranges (c.index.result.now.place + 1) c.saturating_sub.result xs) (sym (rest_of starts))
    (subst (λ n. IsStretch ranges (c.index.result.now.place + 1) n (drop 1 starts)) (sym count)
    (subst (λ (o : Offset). IsStretch ranges (o.place + 1) (length starts - 2) (drop 1 starts)) (sym read) stretch))

pub returns-clause-sample : goal.returns-clause-sample
returns-clause-sample c =
    let starts = c.starts-starts.result.now in
    let span = c.span-span.result.now in
    let sample = c.sample.result.now in
    let is = c.starts-starts.ensures in
    let many : length starts ≡ length span.ranges = ap length is ∙ length-map span.ranges (λ (r : Range). r.start) in
    let count : c.saturating_sub.result ≡ length starts - 2 = c.saturating_sub.ensures in
    let own = subst (λ (xs : List ℕ). IsSample (length span.ranges - 2) (drop 1 xs) sample) (sym is) c.sample.ensures in
    let all = subst (λ (n : ℕ). IsSample (n - 2) (drop 1 starts) sample) (sym many) own in
    subst (λ xs. IsSample c.saturating_sub.result xs sample) (sym (rest_of starts))
    (subst (λ n. IsSample n (drop 1 starts) sample) (sym count) all)
