use Rattle.std.proofs.Common.{rules}
use Rattle.s2ix_cli_script.proofs.edits.relabel_named.Goals as goal

pub returns-in_err-source : goal.returns-in_err-source
returns-in_err-source c = search rules

pub returns : goal.returns
returns c = search rules
