use Rattle.s2id_core.proofs.Cells.{cells_decided}
use Rattle.s2id_core.proofs.laws.equal_cells_are_one.Goals as goal

pub returns : goal.returns
returns c = cells_decided
