-- The pair is before the first of the bundle in the middle, or it isn't.
use Rattle.std.proofs.Common.{◌+◌, ◌-◌, ◌/◌, ◌<◌, ◌≤◌, [], slice_index_or, length, ◌∙◌, arith, rules}
use Rattle.std.proofs.lemmas.Bool.{iff_false}
use Rattle.std.proofs.lemmas.List.{get_or_default}
use Rattle.s2ix_bag_pairs.specs.Pair.{rank_of}
use Rattle.s2ix_bag_lists.proofs.Bundles.{start_is, starts_count}
use Rattle.s2ix_bag_lists.proofs.BundleSearch.{IsMiddle, first_filled, spanned_high, spanned_low, spanned_start}
use Rattle.s2ix_bag_lists.proofs.bundle_search.bundle_of.Goals.{After-index-bundles-middle}
use Rattle.s2ix_bag_lists.proofs.bundle_search.bundle_of.Goals as goal

pub loop-behind-init : goal.loop-behind-init
loop-behind-init c =
    spanned_start c.args.bundles.now (rank_of c.args.pair) c.args.first c.args.end c.bundle_at-bundle.result.0 c.bundle_at-bundle.result.1
    c.bundle_at-last.result.0 c.bundle_at-last.result.1 c.requires.some c.requires.within c.bundle_at-bundle.ensures c.bundle_at-last.ensures

pub bounds-starts-middle : goal.bounds-starts-middle
bounds-starts-middle c =
    let was = c.loop-behind.invariant in
    omega (arith, was.some, was.within, starts_count c.args.starts.now c.args.bundles.now c.requires.counted)

middle_is : (c : After-index-bundles-middle) → IsMiddle c.args.bundles.now c.loop-behind.bundle c.loop-behind.behind
    (c.loop-behind.bundle + (c.loop-behind.behind - c.loop-behind.bundle) / 2)
    (slice_index_or c.args.starts.now (c.loop-behind.bundle + (c.loop-behind.behind - c.loop-behind.bundle) / 2) 0)
    c.index-bundles-middle.result
middle_is c =
    let gs = c.args.bundles.now in
    let middle = c.loop-behind.bundle + (c.loop-behind.behind - c.loop-behind.bundle) / 2 in
    let was = c.loop-behind.invariant in
    let test = c.loop-behind-test.true in
    let within : middle < length gs = omega (arith, was.some, was.within) in
    record {
      above = omega (arith, test);
      under = omega (arith, test);
      counted = start_is c.args.starts.now gs middle c.requires.counted within;
      read = c.index-bundles-middle.is ∙ get_or_default gs middle c.index-bundles-middle.result [] within;
    }

pub first_held-requires-clause-pair : goal.first_held-requires-clause-pair
first_held-requires-clause-pair c =
    let l = c.loop-behind in
    let middle = l.bundle + (l.behind - l.bundle) / 2 in
    first_filled c.args.bundles.now (rank_of c.args.pair) c.args.first c.args.end l.bundle l.behind l.low l.high middle
    (slice_index_or c.args.starts.now middle 0) c.index-bundles-middle.result c.requires.some_lists c.requires.filled l.invariant
    (middle_is (goal.at-first_held-requires-clause-pair c).After-index-bundles-middle)

pub loop-behind-preserved-then-is_before : goal.loop-behind-preserved-then-is_before
loop-behind-preserved-then-is_before c =
    let l = c.loop-behind in
    let middle = l.bundle + (l.behind - l.bundle) / 2 in
    spanned_high c.args.bundles.now (rank_of c.args.pair) c.args.first c.args.end l.bundle l.behind l.low l.high middle
    (slice_index_or c.args.starts.now middle 0) c.index-bundles-middle.result c.first_held.result c.requires.some_lists c.requires.rises
    l.invariant (middle_is (goal.at-loop-behind-preserved-then-is_before c).After-index-bundles-middle) c.first_held.ensures (search rules)

pub loop-behind-preserved : goal.loop-behind-preserved
loop-behind-preserved c =
    let l = c.loop-behind in
    let middle = l.bundle + (l.behind - l.bundle) / 2 in
    let not_before : rank_of c.first_held.result.pair ≤ rank_of c.args.pair =
    omega (arith, iff_false c.is_before.ensures c.if-is_before.false) in
    spanned_low c.args.bundles.now (rank_of c.args.pair) c.args.first c.args.end l.bundle l.behind l.low l.high middle
    (slice_index_or c.args.starts.now middle 0) c.index-bundles-middle.result c.first_held.result c.requires.some_lists c.requires.rises
    l.invariant (middle_is (goal.at-loop-behind-preserved c).After-index-bundles-middle) c.first_held.ensures not_before
