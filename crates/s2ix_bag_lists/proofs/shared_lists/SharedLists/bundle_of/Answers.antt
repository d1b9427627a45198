-- The lists are cut out of their bundle.
use Rattle.std.proofs.Common.{◌≡◌, ◌-◌, ◌<◌, ◌≤◌, [], length, take, drop, get_or, List, ap, ◌∙◌, subst, arith}
use Rattle.std.proofs.lemmas.List.{get_or_default}
use Rattle.s2ix_bag_pairs.specs.Collection.{Collection}
use Rattle.s2ix_bag_pairs.specs.Pair.{rank_of}
use Rattle.s2ix_bag_lists.specs.Bundles.{IsSpan, lists_between, lists_of}
use Rattle.s2ix_bag_lists.specs.Parts.{AreAround}
use Rattle.s2ix_bag_lists.proofs.Bundles.{start_is, starts_count}
use Rattle.s2ix_bag_lists.proofs.BundleSearch.{span_around}
use Rattle.s2ix_bag_lists.proofs.shared_lists.SharedLists.bundle_of.Goals.{After-as_slice, After-bundle_of-span}
use Rattle.s2ix_bag_lists.proofs.shared_lists.SharedLists.bundle_of.Goals as goal

span_is : (c : After-bundle_of-span) → IsSpan c.self.inside.bundles.items c.bundle_of-span.result.bundle c.bundle_of-span.result.first
    c.bundle_of-span.result.end
span_is c = rw c.deref.ensures.value at c.bundle_of-span.ensures.span

pub index-start-requires : goal.index-start-requires
index-start-requires c =
    let span = span_is (goal.at-index-start-requires c).After-bundle_of-span in
    omega (
      arith,
      span.within,
      starts_count c.self.inside.starts.items c.self.inside.bundles.items c.self.invariant.counted,
      c.deref-2.ensures.len,
      ap (λ x. length x) c.deref-2.ensures.value,
    )

-- how many lists come before the bundle
start_of : (c : After-as_slice) → c.index-start.result.now ≡ length (lists_of (take c.bundle_of-span.result.bundle c.self.inside.bundles.items))
start_of c =
    let gs = c.self.inside.bundles.items in
    let starts = c.self.inside.starts.items in
    let i = c.bundle_of-span.result.bundle in
    let span : IsSpan gs i c.bundle_of-span.result.first c.bundle_of-span.result.end = rw c.deref.ensures.value at c.bundle_of-span.ensures.span in
    let within : i < length starts = omega (arith, span.within, starts_count starts gs c.self.invariant.counted) in
    c.index-start.ensures ∙ get_or_default starts i c.index-start.result.now 0 within ∙ start_is starts gs i c.self.invariant.counted span.within

own_of : (c : After-as_slice) → c.as_slice.result.now ≡ get_or c.self.inside.bundles.items c.bundle_of-span.result.bundle []
own_of c =
    let gs = c.self.inside.bundles.items in
    let i = c.bundle_of-span.result.bundle in
    let span : IsSpan gs i c.bundle_of-span.result.first c.bundle_of-span.result.end = rw c.deref.ensures.value at c.bundle_of-span.ensures.span in
    c.as_slice.ensures ∙ c.index.ensures ∙ get_or_default gs i c.index.result.now [] span.within

pub overflow_sub-span : goal.overflow_sub-span
overflow_sub-span c =
    let at = (goal.at-overflow_sub-span c).After-as_slice in
    let span = span_is (goal.at-overflow_sub-span c).After-bundle_of-span in
    omega (arith, start_of at, span.begins, span.some)

pub split_at-requires : goal.split_at-requires
split_at-requires c =
    let at = (goal.at-split_at-requires c).After-as_slice in
    let span = span_is (goal.at-split_at-requires c).After-bundle_of-span in
    omega (arith, start_of at, span.ends, ap (λ (x : List Collection). length x) (own_of at))

pub overflow_sub-span-2 : goal.overflow_sub-span-2
overflow_sub-span-2 c =
    let at = (goal.at-overflow_sub-span-2 c).After-as_slice in
    let span = span_is (goal.at-overflow_sub-span-2 c).After-bundle_of-span in
    omega (arith, start_of at, span.begins)

pub returns : goal.returns
returns c =
    let gs = c.self.inside.bundles.items in
    let rank = rank_of c.args.pair in
    let first = c.args.first in
    let end = c.args.end in
    let found = c.bundle_of-span.result in
    let start = c.index-start.result.now in
    let at = (goal.at-returns c).After-as_slice in
    let within : end ≤ length (lists_of gs) = omega (arith, c.requires.within, ap (λ (x : List Collection). length x) c.self.view_is) in
    let own = c.split_at-2.ensures.back
    ∙ ap (λ (x : List Collection). drop (found.first - start) x)
    (c.split_at.ensures.front ∙ ap (λ (x : List Collection). take (found.end - start) x) (own_of at)) in
    subst (λ (x : List Collection). AreAround (lists_between first end x) rank (found.first - first) c.split_at-2.result.1.now) c.self.view_is
    (span_around gs rank first end found.bundle found.first found.end start c.split_at-2.result.1.now within
    (span_is (goal.at-returns c).After-bundle_of-span) (start_of at) c.bundle_of-span.ensures.from c.bundle_of-span.ensures.up_to own
    (rw c.deref.ensures.value at c.bundle_of-span.ensures.below) (rw c.deref.ensures.value at c.bundle_of-span.ensures.rest))
