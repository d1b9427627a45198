use Rattle.s2ix_bag_pairs.proofs.Collections.{same_collection}
use Rattle.s2ix_bag_pairs.proofs.laws.counts_tell_collections_apart.Goals as goal

pub returns : goal.returns
returns c = same_collection
