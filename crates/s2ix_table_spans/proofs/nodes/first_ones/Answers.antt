use Rattle.std.proofs.Common.{rules}
use Rattle.s2ix_table_spans.proofs.nodes.first_ones.Goals as goal

pub returns : goal.returns
returns g c = search rules
