use Rattle.s2ix_bag_pairs.proofs.Collections.{held_count}
use Rattle.s2ix_bag_pairs.proofs.laws.held_are_counted.Goals as goal

pub returns : goal.returns
returns c = held_count
