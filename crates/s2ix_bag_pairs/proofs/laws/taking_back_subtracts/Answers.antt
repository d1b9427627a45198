use Rattle.s2ix_bag_pairs.proofs.TakenBack.{above_from_none, taken_back_keeps, gain_taken}
use Rattle.s2ix_bag_pairs.proofs.laws.taking_back_subtracts.Goals as goal

pub returns : goal.returns
returns c =
    λ hs es hs_is es_is none.
    let above = above_from_none hs es none in (taken_back_keeps hs es hs_is es_is above, λ p. gain_taken hs es p hs_is es_is above)
