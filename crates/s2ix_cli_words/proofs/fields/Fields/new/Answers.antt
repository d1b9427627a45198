use Rattle.std.proofs.Common.{rules}
use Rattle.s2ix_cli_words.proofs.fields.Fields.new.Goals as goal

pub returns : goal.returns
returns c = search rules
