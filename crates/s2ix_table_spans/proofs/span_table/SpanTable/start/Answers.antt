use Rattle.std.proofs.Common.{◌≡◌, ◌<◌, length, sym, ◌∙◌, arith, subst}
use Rattle.s2ix_table_walk.specs.Table.{range_at}
use Rattle.s2ix_table_spans.specs.SpanTable.{SpanRanges}
use Rattle.s2ix_table_spans.proofs.Ranges.{length_ranges, range_start}
use Rattle.s2ix_table_spans.proofs.span_table.SpanTable.start.Goals as goal

pub index-requires : goal.index-requires
index-requires c =
    let t = c.self.inside in
    let n = length_ranges t.held t.starts.items t.to in
    let lt = subst (λ (v : SpanRanges). c.args.k < length v.ranges) (sym c.self.view_is) c.requires in
    omega arith

pub returns : goal.returns
returns c =
    let t = c.self.inside in
    let n = length_ranges t.held t.starts.items t.to in
    let lt = subst (λ (v : SpanRanges). c.args.k < length v.ranges) (sym c.self.view_is) c.requires in
    let got = range_start t.held t.starts.items t.to c.args.k c.index.result.now (omega arith) in
    subst (λ (v : SpanRanges). c.index.result.now ≡ (range_at v.ranges c.args.k).start) c.self.view_is (c.index.ensures ∙ sym got)
