use Rattle.std.proofs.Common.{rules}
use Rattle.s2ix_bag_pairs.proofs.pair.Pair.is_before.Goals as goal

pub returns : goal.returns
returns c = search rules
