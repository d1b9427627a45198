use Rattle.std.proofs.Common.{rules}
use Rattle.s2ix_cli_script.proofs.fields.pair_named.Goals as goal

pub returns-in_default : goal.returns-in_default
returns-in_default c = search rules

pub returns-in_default-2 : goal.returns-in_default-2
returns-in_default-2 c = search rules

pub returns-then-is_some : goal.returns-then-is_some
returns-then-is_some c = search rules

pub returns-in_err-cell : goal.returns-in_err-cell
returns-in_err-cell c = search rules

pub returns-in_err-label : goal.returns-in_err-label
returns-in_err-label c = search rules

pub returns-in_err-copies-in-Some : goal.returns-in_err-copies-in-Some
returns-in_err-copies-in-Some c = search rules

pub returns-in-None : goal.returns-in-None
returns-in-None c = search rules

pub returns-in_ok-copies-in-Some : goal.returns-in_ok-copies-in-Some
returns-in_ok-copies-in-Some c = search rules
