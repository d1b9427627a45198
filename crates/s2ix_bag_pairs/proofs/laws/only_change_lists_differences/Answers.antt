use Rattle.s2ix_bag_pairs.proofs.Differences.{only_change}
use Rattle.s2ix_bag_pairs.proofs.laws.only_change_lists_differences.Goals as goal

pub returns : goal.returns
returns c = only_change
