use Rattle.s2ix_text.proofs.WholeDumps.{dumps_have_no_fault}
use Rattle.s2ix_text.proofs.laws.dumps_have_no_fault.Goals as goal

pub returns : goal.returns
returns c = dumps_have_no_fault
