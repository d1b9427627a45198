-- The pairs that begin late enough are the front of the chain.
use Rattle.std.proofs.Common.{map, subst}
use Rattle.s2ix_bag_pairs.specs.Collection.{Collection}
use Rattle.s2ix_c_calls.specs.Lists.{IsFilled, row_of}
use Rattle.s2ix_c_calls.proofs.chains.put_begun.Goals as goal

pub returns : goal.returns
returns g c =
    subst (λ (l : Collection). IsFilled (map row_of l) c.put_chain.result c.put_chain.new.number c.args.out.now c.put_chain.new.out)
    (c.first_in-first.ensures.begun c.args.from) c.put_chain.ensures
