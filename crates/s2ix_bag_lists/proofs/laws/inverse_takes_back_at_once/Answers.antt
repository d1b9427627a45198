use Rattle.s2ix_bag_pairs.specs.Change.{changed}
use Rattle.s2ix_bag_lists.proofs.Refusals.{taken_from_none, inverse_taken}
use Rattle.s2ix_bag_lists.proofs.Reverts.{back_at_once}
use Rattle.s2ix_bag_lists.proofs.laws.inverse_takes_back_at_once.Goals as goal

pub returns : goal.returns
returns c =
    λ bag es is_bag es_is none.
    back_at_once (changed bag.held es) es (inverse_taken bag es is_bag es_is (taken_from_none bag es none)).before
