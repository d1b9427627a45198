use Rattle.s2ix_bag_pairs.proofs.Equal.{entries_decided}
use Rattle.s2ix_bag_pairs.proofs.laws.equal_entries_are_one.Goals as goal

pub returns : goal.returns
returns c = entries_decided
