use Rattle.std.proofs.Common.{rules}
use Rattle.s2id_core.proofs.cell_id.CellId.raw.Goals as goal

pub returns : goal.returns
returns c = search rules
