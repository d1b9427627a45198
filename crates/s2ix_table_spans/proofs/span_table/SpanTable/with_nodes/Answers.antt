use Rattle.s2ix_table_spans.proofs.Spans.{spans}
use Rattle.s2ix_table_spans.proofs.span_table.SpanTable.with_nodes.Goals as goal

pub returns-clause-table : goal.returns-clause-table
returns-clause-table c =
    let nodes = c.args.nodes in
    spans c.args.held c.args.from c.args.to nodes.outer.items nodes.starts.items nodes.firsts.items c.requires
