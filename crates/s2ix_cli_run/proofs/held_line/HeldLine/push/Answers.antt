-- One tactic alone, so that a body that keeps more or less is refused soon.
use Rattle.std.proofs.Common.{rules}
use Rattle.s2ix_cli_run.proofs.held_line.HeldLine.push.Goals as goal

pub returns-else-not-self : goal.returns-else-not-self
returns-else-not-self c = search rules
