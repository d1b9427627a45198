use Rattle.s2ix_text.proofs.Answered.{written_journals_are_read_back}
use Rattle.s2ix_text.proofs.laws.written_journals_are_read_back.Goals as goal

pub returns : goal.returns
returns c = written_journals_are_read_back
