use Rattle.s2ix_cli_script.proofs.Equal.{instructions_decided}
use Rattle.s2ix_cli_script.proofs.laws.equal_instructions_are_one.Goals as goal

pub returns : goal.returns
returns c = instructions_decided c.equal_edits_are_one.ensures c.equal_unions_are_one.ensures.cells
