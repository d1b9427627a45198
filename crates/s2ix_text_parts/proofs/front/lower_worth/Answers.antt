use Rattle.std.proofs.Common.{arith}
use Rattle.s2ix_text_parts.proofs.Fronts.{worth_of_lower, worth_of_other}
use Rattle.s2ix_text_parts.proofs.front.lower_worth.Goals as goal

pub returns : goal.returns
returns c = record { digit = worth_of_lower c.args.byte (omega arith); other = worth_of_other c.args.byte (omega arith) }
