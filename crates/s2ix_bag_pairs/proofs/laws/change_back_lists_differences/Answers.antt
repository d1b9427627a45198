use Rattle.s2ix_bag_pairs.proofs.TakenBack.{above_from_none, between_taken_back}
use Rattle.s2ix_bag_pairs.proofs.laws.change_back_lists_differences.Goals as goal

pub returns : goal.returns
returns c =
    λ hs es hs_is es_is none. between_taken_back hs es hs_is es_is (above_from_none hs es none)
