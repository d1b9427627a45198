use Rattle.s2ix_bag_pairs.proofs.Differences.{changed_between}
use Rattle.s2ix_bag_pairs.proofs.Inverse.{changed_inverse_between}
use Rattle.s2ix_bag_pairs.proofs.laws.change_leads_there_and_back.Goals as goal

pub returns : goal.returns
returns c =
    λ old new old_is new_is. (changed_between old new old_is new_is, changed_inverse_between old new old_is new_is)
