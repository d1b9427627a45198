use Rattle.s2ix_text_write.proofs.Dumps.{bag_dump}
use Rattle.s2ix_text_write.proofs.laws.bags_have_dumps.Goals as goal

pub returns : goal.returns
returns c = bag_dump
