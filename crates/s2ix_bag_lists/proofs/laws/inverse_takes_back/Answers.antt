use Rattle.s2ix_bag_pairs.specs.Change.{changed, inverse_of}
use Rattle.s2ix_bag_lists.proofs.Applied.{changed_inverse}
use Rattle.s2ix_bag_lists.proofs.Refusals.{taken_from_none, refusal_of_taken, inverse_taken}
use Rattle.s2ix_bag_lists.proofs.laws.inverse_takes_back.Goals as goal

pub returns : goal.returns
returns c =
    λ bag es is_bag es_is none.
    let taken = taken_from_none bag es none in (
      refusal_of_taken (record { limits = bag.limits; held = changed bag.held es }) (inverse_of es)
          (inverse_taken bag es is_bag es_is taken),
      changed_inverse bag.held es is_bag.rises es_is taken.before,
    )
