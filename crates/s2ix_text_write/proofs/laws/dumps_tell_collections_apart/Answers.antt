use Rattle.s2ix_text_write.proofs.Dumps.{one_dump, one_dump_of_bags}
use Rattle.s2ix_text_write.proofs.laws.dumps_tell_collections_apart.Goals as goal

pub returns-clause-collections : goal.returns-clause-collections
returns-clause-collections c = one_dump

pub returns-clause-bags : goal.returns-clause-bags
returns-clause-bags c = one_dump_of_bags
