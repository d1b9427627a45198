use Rattle.std.proofs.Common.{◌≡◌, take, drop, length, min, List, sym, ap, ◌∙◌, arith, rules}
use Rattle.s2ix_bag_pairs.specs.Collection.{Collection}
use Rattle.s2ix_bag_lists.specs.View.{all_in}
use Rattle.s2ix_bag_lists.proofs.Views.{view_bundle}
use Rattle.s2ix_bag_lists.proofs.lists_view.ListsView.split_bundle.Goals as goal

pub returns-clause-whole : goal.returns-clause-whole
returns-clause-whole c =
    let first = c.args.self.first in
    let end = c.args.self.end in
    let ls = all_in c.args.self in
    let own = c.bundle_from-own.result.now in
    let all : ls ≡ c.in_ok-whole.whole.now = search rules in
    let long : c.len.result ≡ length ls = c.len.ensures.number ∙ ap (λ (x : List Collection). length x) (sym all) in
    let is : c.min-end.result ≡ min end (length ls) = omega (arith, c.min-end.ensures, long) in
    view_bundle first end c.min-end.result ls own is c.bundle_from-own.ensures.within
    (c.bundle_from-own.ensures.own ∙ ap (λ (x : List Collection). take (length own) (drop first x)) (sym all))
