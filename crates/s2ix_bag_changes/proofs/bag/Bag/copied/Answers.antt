use Rattle.std.proofs.Common.{rules}
use Rattle.s2ix_bag_changes.proofs.bag.Bag.copied.Goals as goal

pub returns-in_err-clone : goal.returns-in_err-clone
returns-in_err-clone c = search rules

pub returns : goal.returns
returns c = search rules
