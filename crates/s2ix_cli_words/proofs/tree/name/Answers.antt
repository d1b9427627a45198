-- What clap was told one after the other.
use Rattle.std.proofs.Common.{rules}
use Rattle.s2ix_cli_words.proofs.tree.name.Goals as goal

pub returns : goal.returns
returns c = search rules
