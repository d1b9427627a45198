use Rattle.std.proofs.Common.{rules}
use Rattle.s2ix_cli_script.proofs.edits.normal_named.Goals as goal

pub returns-in_err-label : goal.returns-in_err-label
returns-in_err-label c = search rules

pub returns : goal.returns
returns c = search rules
