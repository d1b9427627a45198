use Rattle.s2ix_bag_pairs.proofs.Equal.{pairs_decided}
use Rattle.s2ix_bag_pairs.proofs.laws.equal_pairs_are_one.Goals as goal

pub returns : goal.returns
returns c = pairs_decided
