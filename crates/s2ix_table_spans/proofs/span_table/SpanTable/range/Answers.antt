use Rattle.std.proofs.Common.{◌≡◌, ◌+◌, ◌<◌, length, sym, ◌∙◌, arith, subst}
use Rattle.s2ix_table_walk.specs.Table.{range_at}
use Rattle.s2ix_table_spans.specs.SpanTable.{SpanRanges}
use Rattle.s2ix_table_spans.proofs.Ranges.{length_ranges, range_start, range_limit, last_limit}
use Rattle.s2ix_table_spans.proofs.span_table.SpanTable.range.Goals as goal

pub index-start-requires : goal.index-start-requires
index-start-requires c =
    let t = c.self.inside in
    let n = length_ranges t.held t.starts.items t.to in
    let lt = subst (λ (v : SpanRanges). c.args.k < length v.ranges) (sym c.self.view_is) c.requires in
    omega arith

pub returns-then-k-len-clause-start : goal.returns-then-k-len-clause-start
returns-then-k-len-clause-start c =
    let t = c.self.inside in
    let n = length_ranges t.held t.starts.items t.to in
    let lt = subst (λ (v : SpanRanges). c.args.k < length v.ranges) (sym c.self.view_is) c.requires in
    let got = range_start t.held t.starts.items t.to c.args.k c.index-start.result.now (omega arith) in
    subst (λ (v : SpanRanges). c.index-start.result.now ≡ (range_at v.ranges c.args.k).start) c.self.view_is (c.index-start.ensures ∙ sym got)

pub returns-else-k-len-clause-start : goal.returns-else-k-len-clause-start
returns-else-k-len-clause-start c =
    let t = c.self.inside in
    let n = length_ranges t.held t.starts.items t.to in
    let lt = subst (λ (v : SpanRanges). c.args.k < length v.ranges) (sym c.self.view_is) c.requires in
    let got = range_start t.held t.starts.items t.to c.args.k c.index-start.result.now (omega arith) in
    subst (λ (v : SpanRanges). c.index-start.result.now ≡ (range_at v.ranges c.args.k).start) c.self.view_is (c.index-start.ensures ∙ sym got)

pub returns-then-k-len-clause-limit : goal.returns-then-k-len-clause-limit
returns-then-k-len-clause-limit c =
    let t = c.self.inside in
    let less = c.if-k-len.true in
    let len = c.len.ensures in
    let got = range_limit t.held t.starts.items t.to c.args.k (c.args.k + 1) c.index.result.now (omega arith) (omega arith) in
    subst (λ (v : SpanRanges). c.index.result.now ≡ (range_at v.ranges c.args.k).limit) c.self.view_is (c.index.ensures ∙ sym got)

pub returns-else-k-len-clause-limit : goal.returns-else-k-len-clause-limit
returns-else-k-len-clause-limit c =
    let t = c.self.inside in
    let n = length_ranges t.held t.starts.items t.to in
    let lt = subst (λ (v : SpanRanges). c.args.k < length v.ranges) (sym c.self.view_is) c.requires in
    let ge = c.if-k-len.false in
    let len = c.len.ensures in
    subst (λ (v : SpanRanges). t.to ≡ (range_at v.ranges c.args.k).limit) c.self.view_is (sym (last_limit t.held t.starts.items t.to c.args.k (omega arith)))
