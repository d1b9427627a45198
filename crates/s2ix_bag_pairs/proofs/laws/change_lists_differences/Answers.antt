use Rattle.s2ix_bag_pairs.proofs.Differences.{between_is_change, counts_between}
use Rattle.s2ix_bag_pairs.proofs.laws.change_lists_differences.Goals as goal

pub returns : goal.returns
returns c =
    λ old new old_is new_is. (between_is_change old new old_is, λ p. counts_between old new p old_is new_is)
