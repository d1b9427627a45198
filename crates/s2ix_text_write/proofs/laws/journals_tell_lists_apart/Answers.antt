use Rattle.s2ix_text_write.proofs.Journals.{one_journal}
use Rattle.s2ix_text_write.proofs.laws.journals_tell_lists_apart.Goals as goal

pub returns : goal.returns
returns c = one_journal
