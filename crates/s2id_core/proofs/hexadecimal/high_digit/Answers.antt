use Rattle.std.proofs.Common.{arith}
use Rattle.s2id_core.proofs.Digits.{high_by_table}
use Rattle.s2id_core.proofs.hexadecimal.high_digit.Goals as goal

pub returns : goal.returns
returns c = high_by_table c.args.byte (omega arith)
