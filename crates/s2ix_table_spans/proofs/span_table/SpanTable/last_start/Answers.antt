use Rattle.std.proofs.Common.{◌≡◌, ◌-◌, length, sym, ◌∙◌, ap, arith, subst}
use Rattle.s2ix_table_walk.specs.Table.{range_at}
use Rattle.s2ix_table_spans.specs.SpanTable.{SpanRanges}
use Rattle.s2ix_table_spans.specs.Starts.{ranges_from}
use Rattle.s2ix_table_spans.proofs.Ranges.{length_ranges, range_start}
use Rattle.s2ix_table_spans.proofs.span_table.SpanTable.last_start.Goals as goal

pub returns : goal.returns
returns c =
    let t = c.self.inside in
    let starts = t.starts.items in
    let n = length_ranges t.held starts t.to in
    let some = c.self.invariant.table.some in
    let got = range_start t.held starts t.to (length starts - 1) 0 (omega arith) in
    let last = ap (λ m. (range_at (ranges_from t.held starts t.to) (m - 1)).start) n in
    subst (λ (v : SpanRanges). t.last_start ≡ (range_at v.ranges (length v.ranges - 1)).start) c.self.view_is
    (sym t.ends.start ∙ sym got ∙ sym last)
