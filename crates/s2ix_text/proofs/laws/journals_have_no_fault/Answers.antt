use Rattle.s2ix_text.proofs.Answered.{journals_have_no_fault}
use Rattle.s2ix_text.proofs.laws.journals_have_no_fault.Goals as goal

pub returns : goal.returns
returns c = journals_have_no_fault
