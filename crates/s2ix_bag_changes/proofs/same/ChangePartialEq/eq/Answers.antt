use Rattle.std.proofs.Common.{rules}
use Rattle.s2ix_bag_changes.proofs.same.ChangePartialEq.eq.Goals as goal

pub returns : goal.returns
returns c = search rules
