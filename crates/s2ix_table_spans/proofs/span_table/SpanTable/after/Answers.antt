use Rattle.std.proofs.Common.{rules}
use Rattle.s2ix_table_spans.proofs.span_table.SpanTable.after.Goals as goal
use Rattle.s2ix_table_spans.proofs.span_table.SpanTable.after.Goals.{in-Some+in_ok-nodes-in-Some, in-None+in_ok-nodes-in-None}

pub with_nodes-requires : goal.with_nodes-requires
with_nodes-requires c =
    elim c.match-changed_block.branch [
      | in-Some+in_ok-nodes-in-Some w ↦ search rules
      | in-None+in_ok-nodes-in-None w ↦ search rules
    ]
