use Rattle.std.proofs.Common.{rules}
use Rattle.s2ix_cli_script.proofs.cells.add_union_named.Goals as goal

pub returns-in_default : goal.returns-in_default
returns-in_default c = search rules

pub returns-in_err-label : goal.returns-in_err-label
returns-in_err-label c = search rules

pub returns-in_err-union : goal.returns-in_err-union
returns-in_err-union c = search rules

pub returns : goal.returns
returns c = search rules
