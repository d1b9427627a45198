use Rattle.std.proofs.Common.{arith}
use Rattle.s2id_core.proofs.Bits.{zeros_by_level}
use Rattle.s2id_core.proofs.Numbers.{path_of_cell}
use Rattle.s2id_core.proofs.cell_id.CellId.level.Goals as goal

pub overflow_sub-result : goal.overflow_sub-result
overflow_sub-result c = omega (arith, zeros_by_level c.args.self.raw c.args.self.valid)

pub returns-clause-level : goal.returns-clause-level
returns-clause-level c =
    omega (arith, zeros_by_level c.args.self.raw c.args.self.valid, (path_of_cell c.args.self.raw c.args.self.valid).at_most)
