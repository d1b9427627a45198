use Rattle.std.proofs.Common.{arith}
use Rattle.s2id_core.proofs.Digits.{worth_by_table}
use Rattle.s2id_core.proofs.token.worth.Goals as goal

pub returns : goal.returns
returns c = worth_by_table c.args.byte (omega arith)
