use Rattle.std.proofs.Common.{rules}
use Rattle.s2ix_bag_changes.proofs.bag.Bag.from_held.Goals as goal

pub returns-in_err-lists : goal.returns-in_err-lists
returns-in_err-lists c = search rules

pub returns : goal.returns
returns c = search rules
