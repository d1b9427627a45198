use Rattle.std.proofs.Common.{◌≡◌, map, sym, ◌∙◌, subst}
use Rattle.s2ix_table_walk.specs.Table.{Range}
use Rattle.s2ix_table_spans.specs.SpanTable.{SpanRanges}
use Rattle.s2ix_table_spans.proofs.Ranges.{all_starts}
use Rattle.s2ix_table_spans.proofs.span_table.SpanTable.starts.Goals as goal

pub returns : goal.returns
returns c =
    let t = c.self.inside in
    subst (λ (v : SpanRanges). c.as_slice.result.now ≡ map (λ (r : Range). r.start) v.ranges) c.self.view_is (c.as_slice.ensures.value ∙ sym (all_starts t.held t.starts.items t.to))
