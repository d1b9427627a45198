use Rattle.std.proofs.Common.{◌≡◌, ◌+◌, ◌-◌, [], ◌∷◌, take, drop, get_or, length, List, sym, ap, ◌∙◌, arith, rules}
use Rattle.s2ix_bag_pairs.specs.Collection.{Collection}
use Rattle.s2ix_bag_lists.specs.View.{all_in}
use Rattle.s2ix_bag_lists.proofs.Views.{view_cons}
use Rattle.s2ix_bag_lists.proofs.lists_view.ListsView.split_first.Goals as goal

pub returns-clause-some : goal.returns-clause-some
returns-clause-some c =
    let first = c.args.self.first in
    let end = c.args.self.end in
    let ls = all_in c.args.self in
    let all : ls ≡ c.in_ok-whole.whole.now = search rules in
    let some = c.if-self.false in
    let more = c.if-self-len.false in
    let long = ap (λ (x : List Collection). length x) all in
    let is : c.at.result.now ≡ get_or ls first [] = c.at.ensures ∙ ap (λ (x : List Collection). get_or x first []) (sym all) in
    view_cons first end ls (omega arith) (omega (arith, c.len.ensures.number, long))
    ∙ ap (λ (list : Collection). list ∷ take (end - (first + 1)) (drop (first + 1) ls)) (sym is)
