use Rattle.std.proofs.Common.{arith}
use Rattle.std.proofs.lemmas.Bool.Decides.{nat_tests}
use Rattle.s2id_core.proofs.Bits.{leaf_by_bit, bit_by_leaf}
use Rattle.s2id_core.proofs.cell_id.CellId.is_leaf.Goals as goal

pub returns : goal.returns
returns c =
    let n = c.args.self.raw in
    let cell = c.args.self.valid in
    (λ is. leaf_by_bit n cell (grind (arith, nat_tests)), λ deep. let odd = bit_by_leaf n cell deep in grind (arith, nat_tests))
