-- The bundles before and behind stay.
use Rattle.std.proofs.Common.{◌≡◌, ◌+◌, ◌-◌, [], ◌++◌, length, take, drop, get_or, List, IfOk, ap, ◌∙◌, subst, arith}
use Rattle.std.proofs.lemmas.List.{get_or_default}
use Rattle.std.proofs.lemmas.List.Elements.{All-append, All-drop, All-same}
use Rattle.s2ix_bag_pairs.specs.Collection.{Collection}
use Rattle.s2ix_bag_lists.specs.Bundles.{HasList, lists_of}
use Rattle.s2ix_bag_lists.proofs.Bundles.{splice}
use Rattle.s2ix_bag_lists.proofs.shared_lists.SharedLists.spliced.Goals.{In_ok-share_bundles-2}
use Rattle.s2ix_bag_lists.proofs.shared_lists.SharedLists.spliced.Goals as goal

all_lists : (c : In_ok-share_bundles-2) → lists_of c.share_bundles-2.new.out.items
    ≡ take c.args.first c.args.self.now ++ (c.args.lists.items ++ drop c.args.end c.args.self.now)
all_lists c =
    let gs = c.self.inside.bundles.items in
    let front = rw c.deref.ensures.value at c.bundle_at-front.ensures in
    let back = rw c.deref-3.ensures.value at c.bundle_at-back.ensures in
    let i = c.bundle_at-front.result.0 in
    let j = c.bundle_at-back.result.0 in
    let some = c.requires.some in
    let own : c.as_slice.result.now ≡ get_or gs i [] =
    c.as_slice.ensures ∙ c.index.ensures ∙ get_or_default gs i c.index.result.now [] front.within in
    let last : c.as_slice-2.result.now ≡ get_or gs j [] =
    c.as_slice-2.ensures ∙ c.index-2.ensures ∙ get_or_default gs j c.index-2.result.now [] back.within in
    splice gs c.share_bundles.new.out.items c.push_bundles.new.bundles.items c.share_bundles-2.new.out.items c.split_at-3.result.0.now
    c.split_at-4.result.1.now c.args.first c.args.end i j c.bundle_at-front.result.1 c.bundle_at-back.result.1 c.split_at.result.0.now
    c.args.lists.items c.split_at-2.result.1.now c.in_ok-middle.middle.items (omega arith) front back
    (c.in_ok-share_bundles.ensures ∙ ap (λ (x : List (List Collection)). x ++ c.split_at-3.result.0.now) c.in_ok-bundles.ensures.items)
    (c.split_at-3.ensures.front ∙ ap (λ (x : List (List Collection)). take i x) c.deref-5.ensures.value)
    c.in_ok-push_bundles.ensures.lists c.in_ok-share_bundles-2.ensures
    (c.split_at-4.ensures.back ∙ ap (λ (x : List (List Collection)). drop (j + 1) x) c.deref-6.ensures.value) c.in_ok-middle.ensures
    (c.split_at.ensures.front ∙ ap (λ (x : List Collection). take (c.args.first - c.bundle_at-front.result.1) x) own)
    (c.split_at-2.ensures.back ∙ ap (λ (x : List Collection). drop (c.args.end - c.bundle_at-back.result.1) x) last)
    ∙ ap (λ (x : List Collection). take c.args.first x ++ (c.args.lists.items ++ drop c.args.end x)) c.self.view_is

pub of_bundles-requires-clause-filled : goal.of_bundles-requires-clause-filled
of_bundles-requires-clause-filled c =
    let gs = c.self.inside.bundles.items in
    let later = c.split_at-4.result.1.now in
    let j = c.bundle_at-back.result.0 in
    All-same HasList c.share_bundles-2.new.out.items (c.push_bundles.new.bundles.items ++ later) c.in_ok-share_bundles-2.ensures
    (All-append HasList c.push_bundles.new.bundles.items later c.in_ok-push_bundles.ensures.filled
    (All-same HasList later (drop (j + 1) gs)
    (c.split_at-4.ensures.back ∙ ap (λ (x : List (List Collection)). drop (j + 1) x) c.deref-6.ensures.value)
    (All-drop HasList (j + 1) gs c.self.invariant.filled)))

pub of_bundles-requires-clause-within_limit : goal.of_bundles-requires-clause-within_limit
of_bundles-requires-clause-within_limit c =
    let all = all_lists (goal.at-of_bundles-requires-clause-within_limit c).In_ok-share_bundles-2 in
    omega (arith, ap (λ (x : List Collection). length x) all, c.requires.within_limit)

pub returns : goal.returns
returns c =
    let all = all_lists (goal.at-returns c).In_ok-share_bundles-2 in
    subst (λ (x : List Collection). IfOk c.of_bundles.result (λ lists. lists ≡ x)) all c.of_bundles.ensures
