-- The list is read in its bundle.
use Rattle.std.proofs.Common.{◌≡◌, ◌-◌, ◌<◌, [], length, get_or, List, ap, ◌∙◌, arith}
use Rattle.std.proofs.lemmas.List.{get_or_default}
use Rattle.s2ix_bag_pairs.specs.Collection.{Collection}
use Rattle.s2ix_bag_lists.proofs.Bundles.{read_in_bundle}
use Rattle.s2ix_bag_lists.proofs.shared_lists.SharedLists.at.Goals as goal

pub returns : goal.returns
returns c =
    let gs = c.self.inside.bundles.items in
    let found = rw c.deref.ensures.value at c.bundle_at-bundle.ensures in
    let i = c.bundle_at-bundle.result.0 in
    let before = c.bundle_at-bundle.result.1 in
    let own : c.as_slice-lists.result.now ≡ get_or gs i [] =
    c.as_slice-lists.ensures ∙ c.index.ensures ∙ get_or_default gs i c.index.result.now [] found.within in
    let inner : c.args.place - before < length (get_or gs i []) = omega (arith, found.begins, found.ends) in
    c.index-lists-place.is
    ∙ ap (λ (x : List Collection). get_or x (c.args.place - before) c.index-lists-place.result) own
    ∙ get_or_default (get_or gs i []) (c.args.place - before) c.index-lists-place.result [] inner
    ∙ read_in_bundle gs c.args.place i before found
    ∙ ap (λ (x : List Collection). get_or x c.args.place []) c.self.view_is
