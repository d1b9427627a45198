use Rattle.s2ix_text_write.proofs.Journals.{written_journal}
use Rattle.s2ix_text_write.proofs.laws.writable_changes_have_journals.Goals as goal

pub returns : goal.returns
returns c = written_journal
