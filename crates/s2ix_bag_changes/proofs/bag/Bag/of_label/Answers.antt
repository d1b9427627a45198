use Rattle.std.proofs.Common.{rules}
use Rattle.s2ix_bag_changes.proofs.bag.Bag.of_label.Goals as goal

pub returns-clause-list : goal.returns-clause-list
returns-clause-list c = search rules

pub returns-clause-within : goal.returns-clause-within
returns-clause-within c = search rules
