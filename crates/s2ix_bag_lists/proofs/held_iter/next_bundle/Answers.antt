use Rattle.std.proofs.Common.{List, subst}
use Rattle.s2ix_bag_pairs.specs.Collection.{Collection}
use Rattle.s2ix_bag_lists.specs.Parts.{AreFilled}
use Rattle.s2ix_bag_lists.specs.View.{lists_in}
use Rattle.s2ix_bag_lists.proofs.Joins.{filled_back, filled_front}
use Rattle.s2ix_bag_lists.proofs.held_iter.next_bundle.Goals as goal

pub returns-clause-parts_filled : goal.returns-clause-parts_filled
returns-clause-parts_filled c =
    filled_front c.in_ok-parts.parts.now (lists_in c.in_ok-parts.others)
    (subst (λ (x : List Collection). AreFilled x) c.in_ok-parts.ensures.whole c.loop-list.invariant.1)

pub returns-clause-filled : goal.returns-clause-filled
returns-clause-filled c =
    filled_back c.in_ok-parts.parts.now (lists_in c.in_ok-parts.others)
    (subst (λ (x : List Collection). AreFilled x) c.in_ok-parts.ensures.whole c.loop-list.invariant.1)
