use Rattle.std.proofs.Common.{arith}
use Rattle.std.proofs.lemmas.Bool.Decides.{nat_tests}
use Rattle.s2id_core.proofs.Nested.{span}
use Rattle.s2id_core.proofs.cell_id.CellId.crosses.Goals as goal

pub returns-then-raw-reach : goal.returns-then-raw-reach
returns-then-raw-reach c =
    let a = span c.args.self.raw c.args.self.valid in
    let b = span c.args.other.raw c.args.other.valid in
    grind (arith, nat_tests)

pub returns-else-raw-reach : goal.returns-else-raw-reach
returns-else-raw-reach c =
    let a = span c.args.self.raw c.args.self.valid in
    let b = span c.args.other.raw c.args.other.valid in
    grind (arith, nat_tests)
