use Rattle.std.proofs.Common.{rules}
use Rattle.s2id_core.proofs.cell_id.CellId.span_end.Goals as goal

pub returns : goal.returns
returns c = search rules
