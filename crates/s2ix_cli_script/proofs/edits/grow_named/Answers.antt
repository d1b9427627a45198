use Rattle.std.proofs.Common.{rules}
use Rattle.s2ix_cli_script.proofs.edits.grow_named.Goals as goal

pub returns-in_err-label : goal.returns-in_err-label
returns-in_err-label c = search rules

pub returns-in_err-label-2 : goal.returns-in_err-label-2
returns-in_err-label-2 c = search rules

pub returns-in_err-level : goal.returns-in_err-level
returns-in_err-level c = search rules

pub returns : goal.returns
returns c = search rules
