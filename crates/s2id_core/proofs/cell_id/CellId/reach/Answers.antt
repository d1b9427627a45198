use Rattle.std.proofs.Common.{◌-◌, length, arith}
use Rattle.s2id_core.specs.Path.{path_at}
use Rattle.s2id_core.proofs.Powers.{four_pos}
use Rattle.s2id_core.proofs.Nested.{first_by_width, end_by_width, span}
use Rattle.s2id_core.proofs.cell_id.CellId.reach.Goals as goal

pub overflow_sub-result : goal.overflow_sub-result
overflow_sub-result c = omega (arith, four_pos (30 - length (path_at c.args.self.raw).digits))

pub returns : goal.returns
returns c =
    let n = c.args.self.raw in
    let cell = c.args.self.valid in
    let pos = four_pos (30 - length (path_at n).digits) in
    let first = first_by_width n cell in
    let last = end_by_width n cell in
    let ends = (span n cell).ends in
    record { from = omega arith; to = omega arith; fits = omega arith }
