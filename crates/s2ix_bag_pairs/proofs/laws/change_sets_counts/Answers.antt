use Rattle.s2ix_bag_pairs.proofs.Changes.{changed_keeps, count_in-changed}
use Rattle.s2ix_bag_pairs.proofs.laws.change_sets_counts.Goals as goal

pub returns : goal.returns
returns c =
    λ hs es hs_is es_is. (changed_keeps hs es hs_is es_is, λ p. count_in-changed hs es p hs_is es_is)
