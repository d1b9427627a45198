use Rattle.s2ix_cli_words.proofs.FieldLaws.{no_white_space, stand}
use Rattle.s2ix_cli_words.proofs.laws.no_field_has_white_space.Goals as goal

pub returns : goal.returns
returns c = λ line. no_white_space 0 _ line (stand line)
