use Rattle.s2ix_bag_pairs.proofs.Pairs.{same_pair}
use Rattle.s2ix_bag_pairs.proofs.laws.ranks_tell_pairs_apart.Goals as goal

pub returns : goal.returns
returns c = same_pair
