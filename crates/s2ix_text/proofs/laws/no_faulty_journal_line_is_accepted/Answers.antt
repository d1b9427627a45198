use Rattle.s2ix_text.proofs.Answered.{no_faulty_journal_line_is_accepted}
use Rattle.s2ix_text.proofs.laws.no_faulty_journal_line_is_accepted.Goals as goal

pub returns : goal.returns
returns c = no_faulty_journal_line_is_accepted
