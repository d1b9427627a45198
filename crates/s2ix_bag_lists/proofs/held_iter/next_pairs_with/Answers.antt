-- The parts that are left are some of those before, and a bundle more has a pair more.
use Rattle.std.proofs.Common.{◌∷◌, List, length, sym, ap, ◌∙◌, subst, arith, length-append}
use Rattle.s2ix_bag_pairs.specs.Collection.{Collection}
use Rattle.s2ix_bag_lists.specs.Faces.{all_of}
use Rattle.s2ix_bag_lists.specs.Parts.{AreFilled}
use Rattle.s2ix_bag_lists.specs.View.{held_from}
use Rattle.s2ix_bag_lists.proofs.Joins.{filled_drop}
use Rattle.s2ix_bag_lists.proofs.Windows.{filled_count}
use Rattle.s2ix_bag_lists.proofs.held_iter.next_pairs_with.Goals.{After-as_slice}
use Rattle.s2ix_bag_lists.proofs.held_iter.next_pairs_with.Goals as goal

-- the part at hand and the parts behind it have pairs
left_filled : (c : After-as_slice) → AreFilled (c.in-Some.part.now ∷ c.in-Some.others.now)
left_filled c =
    subst (λ (x : List Collection). AreFilled x) c.in-Some.ensures.cases.0
    (subst (λ (x : List Collection). AreFilled x) (sym c.split_at.ensures.back)
    (filled_drop c.parts_without.result c.loop-part.parts.now c.loop-part.invariant.1))

pub returns-in-Some-clause-parts_filled : goal.returns-in-Some-clause-parts_filled
returns-in-Some-clause-parts_filled c = (left_filled (goal.at-returns-in-Some-clause-parts_filled c).After-as_slice).1

pub returns-in-Some-clause-last : goal.returns-in-Some-clause-last
returns-in-Some-clause-last c =
    let some = (left_filled (goal.at-returns-in-Some-clause-last c).After-as_slice).0 in
    λ none. absurd (omega (arith, some, ap (λ (x : Collection). length x) (sym c.as_slice.ensures ∙ none)))

pub loop-part-smaller : goal.loop-part-smaller
loop-part-smaller c =
    let next = c.in-Some-next_bundle.next.now in
    let found = c.in-Some-next_bundle.ensures in
    omega (
      arith,
      filled_count next found.parts_filled,
      found.some,
      ap (λ (x : Collection). length x) found.next,
      length-append (all_of next) (held_from c.next_bundle.new.bundles c.next_bundle.new.later.now),
    )
