use Rattle.s2ix_bag_changes.proofs.Equal.{bags_decided}
use Rattle.s2ix_bag_changes.proofs.laws.equal_bags_are_one.Goals as goal

pub returns : goal.returns
returns c = bags_decided
