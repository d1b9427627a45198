use Rattle.s2ix_bag_pairs.proofs.Equal.{limits_decided}
use Rattle.s2ix_bag_pairs.proofs.laws.equal_limits_are_one.Goals as goal

pub returns : goal.returns
returns c = limits_decided
