-- The pair is before the first of the part in the middle, or it isn't.
use Rattle.std.proofs.Common.{◌≡◌, ◌+◌, ◌-◌, ◌/◌, ◌<◌, ◌≤◌, [], Some, get_or, length, slice_get, sym, ◌∙◌, subst, arith, rules}
use Rattle.std.proofs.lemmas.Bool.{iff_false}
use Rattle.std.proofs.lemmas.List.{get_or_default}
use Rattle.s2ix_bag_pairs.specs.Collection.{Collection}
use Rattle.s2ix_bag_pairs.specs.Pair.{rank_of}
use Rattle.s2ix_bag_lists.specs.View.{lists_in}
use Rattle.s2ix_bag_lists.proofs.Joins.{filled_at}
use Rattle.s2ix_bag_lists.proofs.Searches.{narrowed_low, narrowed_high, read_around}
use Rattle.s2ix_bag_lists.proofs.part_search.part_of.Goals.{After-index-own-middle}
use Rattle.s2ix_bag_lists.proofs.part_search.part_of.Goals as goal

pub loop-high-init : goal.loop-high-init
loop-high-init c =
    let around = c.bundle_of-before.ensures.around in (
      omega arith,
      omega arith,
      record {
        some = omega (arith, around.some);
        within = around.within;
        below = around.below;
        rest = around.rest;
      },
    )

-- the part in the middle
middle_read : (c : After-index-own-middle) → c.index-own-middle.result
    ≡ get_or (lists_in c.args.parts) (c.loop-high.low + (c.loop-high.high - c.loop-high.low) / 2) []
middle_read c =
    let own = c.bundle_of-before.result.1.now in
    let before = c.bundle_of-before.result.0 in
    let middle = c.loop-high.low + (c.loop-high.high - c.loop-high.low) / 2 in
    let was = c.loop-high.invariant in
    let inner : middle - before < length own = omega (arith, was.0, was.1, was.2.some, c.loop-high-test.true) in
    c.index-own-middle.is
    ∙ get_or_default own (middle - before) c.index-own-middle.result [] inner
    ∙ read_around (lists_in c.args.parts) own (rank_of c.args.pair) before middle (middle - before) c.bundle_of-before.ensures.around
    (omega (arith, was.0)) inner

pub at-requires : goal.at-requires
at-requires c =
    let ps = lists_in c.args.parts in
    let was = c.loop-high.invariant in
    let middle = c.loop-high.low + (c.loop-high.high - c.loop-high.low) / 2 in
    let within : middle < length ps = omega (arith, was.2.within, was.2.some) in
    subst (λ (x : Collection). 0 < length x) (sym (middle_read (goal.at-at-requires c).After-index-own-middle))
    (filled_at ps middle [] within c.requires.filled)

pub loop-high-preserved-then-is_before : goal.loop-high-preserved-then-is_before
loop-high-preserved-then-is_before c =
    let ps = lists_in c.args.parts in
    let was = c.loop-high.invariant in
    let test = c.loop-high-test.true in
    let middle = c.loop-high.low + (c.loop-high.high - c.loop-high.low) / 2 in
    let first = subst (λ (x : Collection). slice_get x 0 ≡ Some c.at.result)
    (middle_read (goal.at-loop-high-preserved-then-is_before c).After-index-own-middle) c.at.ensures in (
      was.0,
      omega (arith, was.1, was.2.some),
      narrowed_high ps (rank_of c.args.pair) c.loop-high.low c.loop-high.high middle c.at.result c.requires.rises was.2
          (omega (arith, test)) (omega (arith, was.2.some)) first (search rules),
    )

pub loop-high-preserved : goal.loop-high-preserved
loop-high-preserved c =
    let ps = lists_in c.args.parts in
    let was = c.loop-high.invariant in
    let middle = c.loop-high.low + (c.loop-high.high - c.loop-high.low) / 2 in
    let first = subst (λ (x : Collection). slice_get x 0 ≡ Some c.at.result)
    (middle_read (goal.at-loop-high-preserved c).After-index-own-middle) c.at.ensures in
    let not_before : rank_of c.at.result.pair ≤ rank_of c.args.pair =
    omega (arith, iff_false c.is_before.ensures c.if-is_before.false) in (
      omega (arith, was.0),
      was.1,
      narrowed_low ps (rank_of c.args.pair) c.loop-high.low c.loop-high.high middle c.at.result c.requires.rises was.2
          (omega (arith, was.2.some)) first not_before,
    )
