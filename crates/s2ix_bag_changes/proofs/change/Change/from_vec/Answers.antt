use Rattle.std.proofs.Common.{rules}
use Rattle.s2ix_bag_changes.proofs.change.Change.from_vec.Goals as goal

pub returns : goal.returns
returns c = search rules
