use Rattle.s2ix_bag_pairs.proofs.Collections.{counted_held}
use Rattle.s2ix_bag_pairs.proofs.laws.counted_are_held.Goals as goal

pub returns : goal.returns
returns c = counted_held
