use Rattle.std.proofs.Common.{rules}
use Rattle.s2ix_table_spans.proofs.span_table.SpanTable.pair_count.Goals as goal

pub returns : goal.returns
returns c = search rules
