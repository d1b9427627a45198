use Rattle.std.proofs.Common.{rules}
use Rattle.s2ix_cli_words.proofs.numbers.level_spelled.Goals as goal

pub returns-in_err-level : goal.returns-in_err-level
returns-in_err-level c = search rules

pub returns-in-0-to-30 : goal.returns-in-0-to-30
returns-in-0-to-30 c = search rules

pub returns-in_default : goal.returns-in_default
returns-in_default c = search rules
