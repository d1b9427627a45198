use Rattle.std.proofs.Common.{rules}
use Rattle.s2ix_bag_pairs.proofs.limits.Limits.changes.Goals as goal

pub returns : goal.returns
returns c = search rules
