use Rattle.std.proofs.Common.{rules}
use Rattle.s2ix_bag_lists.proofs.compare.push_difference.Goals as goal

pub returns-in_err-push : goal.returns-in_err-push
returns-in_err-push c = search rules

pub returns-in_ok-push : goal.returns-in_ok-push
returns-in_ok-push c = search rules

pub returns-else-before-after : goal.returns-else-before-after
returns-else-before-after c = search rules
