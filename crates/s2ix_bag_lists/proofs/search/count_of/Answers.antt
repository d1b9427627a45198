-- The pairs before the place have no say on the count.
use Rattle.std.proofs.Common.{sym, ap, ◌∙◌, le_refl}
use Rattle.s2ix_bag_pairs.specs.Collection.{count_at}
use Rattle.s2ix_bag_pairs.specs.Pair.{rank_of}
use Rattle.s2ix_bag_pairs.proofs.CutAtRank.{count_past_below}
use Rattle.s2ix_bag_lists.proofs.search.count_of.Goals as goal

pub returns : goal.returns
returns c =
    let rank = rank_of c.args.pair in
    c.count_first.ensures ∙ ap (λ hs. count_at hs rank) c.split_at.ensures.back
    ∙ sym (count_past_below rank c.first_from.result rank c.args.held.now c.first_from.ensures.below (le_refl rank))
