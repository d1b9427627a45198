use Rattle.std.proofs.Common.{arith}
use Rattle.s2id_core.proofs.Numbers.{cell_from_zeros, zeros_from_cell}
use Rattle.s2id_core.proofs.cell_id.CellId.from_raw.Goals as goal
use Rattle.s2id_core.proofs.cell_id.CellId.from_raw.Goals.{else-raw-lt6-via-then-raw-lt6+then-zeros-le60+else-zeros-eq0, else-raw-lt6-via-then-raw-lt6+else-zeros-le60, else-raw-lt6-via-else-raw-lt6}

pub invariant_of-result : goal.invariant_of-result
invariant_of-result c = record { valid = cell_from_zeros c.args.raw (omega arith) (omega arith) (omega arith) }

pub returns-else-raw-lt6-clause-found : goal.returns-else-raw-lt6-clause-found
returns-else-raw-lt6-clause-found c = (
  λ is. absurd (cc),
  λ cell.
      let zeros = zeros_from_cell c.args.raw cell in
      absurd
      (elim c.else-raw-lt6.branch [ else-raw-lt6-via-then-raw-lt6+then-zeros-le60+else-zeros-eq0 w ↦ omega arith | else-raw-lt6-via-then-raw-lt6+else-zeros-le60 w ↦ omega arith | else-raw-lt6-via-else-raw-lt6 w ↦ omega arith ]),
)
