use Rattle.s2ix_text.proofs.WholeDumps.{written_dumps_are_read_back}
use Rattle.s2ix_text.proofs.laws.written_dumps_are_read_back.Goals as goal

pub returns : goal.returns
returns c = written_dumps_are_read_back
