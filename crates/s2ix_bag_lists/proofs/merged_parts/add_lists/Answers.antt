-- The parts of a bundle are some of those that are left.
use Rattle.std.proofs.Common.{◌++◌, List, sym, ap, ◌∙◌, subst, append_assoc}
use Rattle.s2ix_bag_pairs.specs.Collection.{Collection}
use Rattle.s2ix_bag_lists.specs.Faces.{all_of}
use Rattle.s2ix_bag_lists.specs.Parts.{AreFilled}
use Rattle.s2ix_bag_lists.specs.View.{lists_in}
use Rattle.s2ix_bag_lists.proofs.Joins.{all_append, filled_back, filled_front}
use Rattle.s2ix_bag_lists.proofs.merged_parts.add_lists.Goals as goal

pub add_all-requires-clause-some : goal.add_all-requires-clause-some
add_all-requires-clause-some c =
    filled_front c.in-Some.own.now (lists_in c.in-Some.later)
    (subst (λ (x : List Collection). AreFilled x) c.in-Some.ensures.whole c.loop-own.invariant.2)

pub loop-own-preserved : goal.loop-own-preserved
loop-own-preserved c =
    let own = c.in-Some.own.now in
    let later = lists_in c.in-Some.later in
    let out = all_of c.loop-own.out.items in
    let was = c.loop-own.invariant in (
      ap (λ (x : Collection). x ++ all_of later) c.in_ok-add_all.ensures.made
          ∙ append_assoc out (all_of own) (all_of later)
          ∙ ap (λ (x : Collection). out ++ x)
          (sym (ap (λ (x : List Collection). all_of x) c.in-Some.ensures.whole ∙ all_append own later))
          ∙ was.0,
      c.in_ok-add_all.ensures.filled,
      filled_back own later (subst (λ (x : List Collection). AreFilled x) c.in-Some.ensures.whole was.2),
    )
