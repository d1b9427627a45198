use Rattle.s2ix_bag_pairs.proofs.Equal.{labels_decided}
use Rattle.s2ix_bag_pairs.proofs.laws.equal_labels_are_one.Goals as goal

pub returns : goal.returns
returns c = labels_decided
