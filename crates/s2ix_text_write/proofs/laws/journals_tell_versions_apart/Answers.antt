use Rattle.s2ix_text_write.proofs.Journals.{one_version}
use Rattle.s2ix_text_write.proofs.laws.journals_tell_versions_apart.Goals as goal

pub returns : goal.returns
returns c = one_version
