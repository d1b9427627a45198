use Rattle.s2ix_bag_pairs.proofs.Equal.{held_decided}
use Rattle.s2ix_bag_pairs.proofs.laws.equal_held_pairs_are_one.Goals as goal

pub returns : goal.returns
returns c = held_decided
