use Rattle.std.proofs.Common.{rules}
use Rattle.s2ix_bag_changes.proofs.bag.Bag.is_empty.Goals as goal

pub returns : goal.returns
returns c = search rules
