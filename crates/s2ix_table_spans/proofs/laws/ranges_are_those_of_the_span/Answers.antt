use Rattle.std.proofs.Common.{subst}
use Rattle.s2ix_table_spans.specs.SpanTable.{IsSpanTable}
use Rattle.s2ix_table_spans.proofs.Spans.{spans}
use Rattle.s2ix_table_spans.proofs.laws.ranges_are_those_of_the_span.Goals as goal

pub returns : goal.returns
returns c =
    let t = c.table.inside in
    subst IsSpanTable c.table.view_is (spans t.held t.from t.to t.outer.items t.starts.items t.firsts.items c.table.invariant)
