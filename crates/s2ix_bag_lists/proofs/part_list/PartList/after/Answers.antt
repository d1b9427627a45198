-- Only the parts of the window change.
use Rattle.std.proofs.Common.{[], ◌≡◌, ◌++◌, List, take, drop, length, sym, ap, ◌∙◌, subst, arith}
use Rattle.std.proofs.lemmas.List.{nil_from_length}
use Rattle.s2ix_bag_pairs.specs.Collection.{Collection, IsCollection}
use Rattle.s2ix_bag_pairs.proofs.Changes.{changed_keeps}
use Rattle.s2ix_bag_lists.specs.Faces.{all_of}
use Rattle.s2ix_bag_lists.specs.Parts.{AreFilled, starts_from}
use Rattle.s2ix_bag_lists.specs.View.{lists_in}
use Rattle.s2ix_bag_lists.proofs.Windows.{IsInside, IsSpliced, window_own, window_spliced, filled_count}
use Rattle.s2ix_bag_lists.proofs.part_list.PartList.after.Goals.{After-split_at-2, In_ok-made}
use Rattle.s2ix_bag_lists.proofs.part_list.PartList.after.Goals as goal

inside : (c : After-split_at-2) → IsInside (lists_in c.split_at-2.result.1) c.args.entries.now
inside c =
    window_own c.self.inside.parts (lists_in c.all-parts.result) (lists_in c.split_at.result.0) (lists_in c.split_at-2.result.1)
    c.args.self.now c.args.entries.now c.window-first.result.0 c.window-first.result.1 c.all-parts.ensures c.split_at.ensures.front
    c.split_at-2.ensures.back c.self.view_is c.self.invariant.rises c.self.invariant.filled c.requires.before c.window-first.ensures

spliced : (c : In_ok-made) → IsSpliced c.self.inside.parts c.in_ok-made.made.items c.args.self.now c.args.entries.now
    c.window-first.result.0 c.window-first.result.1
spliced c =
    window_spliced c.self.inside.parts (lists_in c.all-parts.result) (lists_in c.split_at.result.0) (lists_in c.split_at-2.result.1)
    c.in_ok-made.made.items c.args.self.now c.args.entries.now c.window-first.result.0 c.window-first.result.1 c.all-parts.ensures
    c.split_at.ensures.front c.split_at-2.ensures.back c.self.view_is c.self.invariant.filled c.in_ok-made.ensures.filled
    c.in_ok-made.ensures.made c.window-first.ensures

pub merged_parts-requires : goal.merged_parts-requires
merged_parts-requires c =
    let is = inside (goal.at-merged_parts-requires c).After-split_at-2 in
    record {
      rises = is.rises;
      filled = is.filled;
      some = is.some;
      entries_rise = c.requires.entries_rise;
      before = is.before;
    }

pub spliced-requires-clause-within_limit : goal.spliced-requires-clause-within_limit
spliced-requires-clause-within_limit c =
    let ps = c.self.inside.parts in
    let made = c.in_ok-made.made.items in
    let is = spliced (goal.at-spliced-requires-clause-within_limit c).In_ok-made in
    let count = filled_count (take c.window-first.result.0 ps ++ (made ++ drop c.window-first.result.1 ps)) is.filled in
    omega (arith, count, ap (λ (x : Collection). length x) is.all, c.requires.within_limit)

pub starts_with-requires-clause-within_limit : goal.starts_with-requires-clause-within_limit
starts_with-requires-clause-within_limit c =
    let ps = c.self.inside.parts in
    let first = c.window-first.result.0 in
    let end = c.window-first.result.1 in
    let is = spliced (goal.at-starts_with-requires-clause-within_limit c).In_ok-made in
    let long = ap (λ (x : List Collection). length (all_of (take first x ++ (c.deref-2.result.now ++ drop end x)))) c.all-parts.ensures
    ∙ ap (λ (x : List Collection). length (all_of (take first ps ++ (x ++ drop end ps)))) c.deref-2.ensures.value
    ∙ ap (λ (x : Collection). length x) is.all in
    omega (arith, long, c.requires.within_limit)

pub returns-then-len-eq0-clause-none : goal.returns-then-len-eq0-clause-none
returns-then-len-eq0-clause-none c =
    let is = spliced (goal.at-returns-then-len-eq0-clause-none c).In_ok-made in
    let none : c.in_ok-parts.parts ≡ [] = nil_from_length c.in_ok-parts.parts (omega (arith, c.if-len-eq0.true, c.len.ensures.number)) in
    λ same.
    sym
    (sym (ap (λ (x : List Collection). all_of x) none) ∙ ap (λ (x : List Collection). all_of x) c.in_ok-parts.ensures ∙ is.all)

pub invariant_of-result : goal.invariant_of-result
invariant_of-result c =
    let ps = c.self.inside.parts in
    let first = c.window-first.result.0 in
    let end = c.window-first.result.1 in
    let is = spliced (goal.at-invariant_of-result c).In_ok-made in
    let parts_are = c.in_ok-parts.ensures in
    let pairs_are = ap (λ (x : List Collection). all_of x) parts_are ∙ is.all in
    let shown : take first (lists_in c.all-parts.result) ++ (c.deref-2.result.now ++ drop end (lists_in c.all-parts.result)) ≡ c.in_ok-parts.parts =
    ap (λ (x : List Collection). take first x ++ (c.deref-2.result.now ++ drop end x)) c.all-parts.ensures
    ∙ ap (λ (x : List Collection). take first ps ++ (x ++ drop end ps)) c.deref-2.ensures.value
    ∙ sym parts_are in
    let whole = c.in_ok-starts.ensures.len ∙ ap (λ (x : List Collection). length (all_of x)) shown in
    let rises = subst (λ (x : Collection). IsCollection x) c.self.view_is c.self.invariant.rises in
    record {
      some = omega (arith, c.if-len-eq0.false, c.len.ensures.number);
      rises = subst (λ (x : Collection). IsCollection x) (sym pairs_are)
          (changed_keeps c.args.self.now c.args.entries.now rises c.requires.entries_rise);
      filled = subst (λ (x : List Collection). AreFilled x) (sym parts_are) is.filled;
      counted = c.in_ok-starts.ensures.starts ∙ ap (λ (x : List Collection). starts_from 0 x) shown;
      whole = whole;
      within_limit = omega (arith, whole, ap (λ (x : Collection). length x) pairs_are, c.requires.within_limit);
    }

pub returns-clause-some : goal.returns-clause-some
returns-clause-some c =
    ap (λ (x : List Collection). all_of x) c.in_ok-parts.ensures ∙ (spliced (goal.at-returns-clause-some c).In_ok-made).all
