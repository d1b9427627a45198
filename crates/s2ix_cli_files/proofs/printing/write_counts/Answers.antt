use Rattle.std.proofs.Common.{rules}
use Rattle.s2ix_cli_files.proofs.printing.write_counts.Goals as goal

pub returns : goal.returns
returns g c = search rules
