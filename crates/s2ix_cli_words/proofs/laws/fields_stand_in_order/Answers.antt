use Rattle.s2ix_cli_words.proofs.FieldLaws.{apart, stand}
use Rattle.s2ix_cli_words.proofs.laws.fields_stand_in_order.Goals as goal

pub returns : goal.returns
returns c = λ line. apart 0 _ line (stand line)
