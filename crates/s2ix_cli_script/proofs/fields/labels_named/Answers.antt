use Rattle.std.proofs.Common.{rules}
use Rattle.s2ix_cli_script.proofs.fields.labels_named.Goals as goal

pub returns-in_err-first : goal.returns-in_err-first
returns-in_err-first c = search rules

pub returns-in_err-label_from_field : goal.returns-in_err-label_from_field
returns-in_err-label_from_field c = search rules

pub returns-in_err-label_from_field-2 : goal.returns-in_err-label_from_field-2
returns-in_err-label_from_field-2 c = search rules

pub returns : goal.returns
returns c = search rules
