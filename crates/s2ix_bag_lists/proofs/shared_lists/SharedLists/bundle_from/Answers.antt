-- The bundle's lists from the place on.
use Rattle.std.proofs.Common.{◌≡◌, ℕ, ◌-◌, ◌≤◌, [], length, take, drop, get_or, List, sym, ap, ◌∙◌, arith}
use Rattle.std.proofs.lemmas.List.{get_or_default}
use Rattle.s2ix_bag_pairs.specs.Collection.{Collection}
use Rattle.s2ix_bag_lists.proofs.Bundles.{from_of}
use Rattle.s2ix_bag_lists.proofs.shared_lists.SharedLists.bundle_from.Goals as goal

pub returns-clause-own : goal.returns-clause-own
returns-clause-own c =
    let gs = c.self.inside.bundles.items in
    let found = rw c.deref.ensures.value at c.bundle_at-bundle.ensures in
    let i = c.bundle_at-bundle.result.0 in
    let before = c.bundle_at-bundle.result.1 in
    let first = c.args.first in
    let k = length c.split_at-2.result.0.now in
    let own : c.as_slice.result.now ≡ get_or gs i [] =
    c.as_slice.ensures ∙ c.index.ensures ∙ get_or_default gs i c.index.result.now [] found.within in
    let rest : c.split_at.result.1.now ≡ drop (first - before) (get_or gs i []) =
    c.split_at.ensures.back ∙ ap (λ (x : List Collection). drop (first - before) x) own in
    let long = ap (λ (x : List Collection). length x) rest in
    let few : k ≤ length c.split_at.result.1.now = omega (arith, c.split_at-2.ensures.front_len, c.min.ensures) in
    c.split_at-2.ensures.front
    ∙ ap (λ (n : ℕ). take n c.split_at.result.1.now) (sym c.split_at-2.ensures.front_len)
    ∙ ap (λ (x : List Collection). take k x) rest
    ∙ from_of gs first i before k found (omega (arith, few, long))
    ∙ ap (λ (x : List Collection). take k (drop first x)) c.self.view_is
