use Rattle.s2ix_text_write.proofs.Apart.{one_export_of_bags}
use Rattle.s2ix_text_write.proofs.laws.exports_tell_bags_apart.Goals as goal

pub returns : goal.returns
returns c = one_export_of_bags
