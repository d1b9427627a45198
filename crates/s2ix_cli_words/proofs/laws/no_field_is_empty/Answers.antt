use Rattle.s2ix_cli_words.proofs.FieldLaws.{no_empty, stand}
use Rattle.s2ix_cli_words.proofs.laws.no_field_is_empty.Goals as goal

pub returns : goal.returns
returns c = λ line. no_empty 0 _ line (stand line)
