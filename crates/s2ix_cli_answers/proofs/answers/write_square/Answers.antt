use Rattle.std.proofs.Common.{rules}
use Rattle.s2ix_cli_answers.proofs.answers.write_square.Goals as goal

pub returns : goal.returns
returns g c = search rules
