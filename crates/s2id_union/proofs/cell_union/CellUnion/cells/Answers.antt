use Rattle.std.proofs.Common.{rules}
use Rattle.s2id_union.proofs.cell_union.CellUnion.cells.Goals as goal

pub returns-clause-list : goal.returns-clause-list
returns-clause-list c = search rules

pub returns-clause-normal : goal.returns-clause-normal
returns-clause-normal c = search rules
