use Rattle.s2ix_text_write.proofs.Dumps.{one_version}
use Rattle.s2ix_text_write.proofs.laws.dumps_tell_versions_apart.Goals as goal

pub returns : goal.returns
returns c = one_version
