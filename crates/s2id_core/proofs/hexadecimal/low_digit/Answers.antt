use Rattle.std.proofs.Common.{arith}
use Rattle.s2id_core.proofs.Digits.{low_by_table}
use Rattle.s2id_core.proofs.hexadecimal.low_digit.Goals as goal

pub returns : goal.returns
returns c = low_by_table c.args.byte (omega arith)
