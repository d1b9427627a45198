use Rattle.std.proofs.Common.{◌≡◌, length, arith, subst}
use Rattle.s2ix_table_spans.specs.SpanTable.{SpanRanges}
use Rattle.s2ix_table_spans.proofs.Ranges.{length_ranges}
use Rattle.s2ix_table_spans.proofs.span_table.SpanTable.range_count.Goals as goal

pub returns : goal.returns
returns c =
    let t = c.self.inside in
    let n = length_ranges t.held t.starts.items t.to in
    let len = c.len.ensures in
    subst (λ (v : SpanRanges). c.len.result ≡ length v.ranges) c.self.view_is (omega arith)
