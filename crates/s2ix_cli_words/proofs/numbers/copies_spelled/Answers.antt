use Rattle.std.proofs.Common.{rules}
use Rattle.s2ix_cli_words.proofs.numbers.copies_spelled.Goals as goal

pub returns-in_err-copies : goal.returns-in_err-copies
returns-in_err-copies c = search rules

pub returns-in-1-to-4294967295 : goal.returns-in-1-to-4294967295
returns-in-1-to-4294967295 c = search rules

pub returns-in_default : goal.returns-in_default
returns-in_default c = search rules

pub returns-in_default-2 : goal.returns-in_default-2
returns-in_default-2 c = search rules
