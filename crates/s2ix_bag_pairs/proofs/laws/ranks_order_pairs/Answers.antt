use Rattle.s2ix_bag_pairs.proofs.Pairs.{rank_order}
use Rattle.s2ix_bag_pairs.proofs.laws.ranks_order_pairs.Goals as goal

pub returns : goal.returns
returns c = rank_order
