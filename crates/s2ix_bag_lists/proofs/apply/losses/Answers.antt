use Rattle.std.proofs.Common.{rules}
use Rattle.s2ix_bag_lists.proofs.apply.losses.Goals as goal

pub returns : goal.returns
returns c = search rules
