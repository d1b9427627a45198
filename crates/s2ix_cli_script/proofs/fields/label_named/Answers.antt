use Rattle.std.proofs.Common.{rules}
use Rattle.s2ix_cli_script.proofs.fields.label_named.Goals as goal

pub returns-in_err-one_field : goal.returns-in_err-one_field
returns-in_err-one_field c = search rules

pub returns : goal.returns
returns c = search rules
