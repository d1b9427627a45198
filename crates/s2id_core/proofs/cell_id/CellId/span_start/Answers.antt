use Rattle.std.proofs.Common.{arith}
use Rattle.s2id_core.proofs.Nested.{first_by_width, span}
use Rattle.s2id_core.proofs.cell_id.CellId.span_start.Goals as goal

pub overflow_sub-result : goal.overflow_sub-result
overflow_sub-result c =
    let n = c.args.self.raw in
    let first = first_by_width n c.args.self.valid in
    let begins = (span n c.args.self.valid).begins in
    omega arith

pub returns : goal.returns
returns c =
    let n = c.args.self.raw in
    let first = first_by_width n c.args.self.valid in
    let begins = (span n c.args.self.valid).begins in
    omega arith
