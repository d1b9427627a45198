use Rattle.std.proofs.Common.{◌≡◌, ◌<◌, ◌+◌, ◌-◌, ◌*◌, ℕ, [], length, take, get_or, sym, ◌∙◌, subst, arith}
use Rattle.std.proofs.lemmas.Bool.Decides.{nat_tests}
use Rattle.s2ix_bag_lists.specs.Faces.{all_of}
use Rattle.s2ix_bag_lists.specs.View.{lists_in}
use Rattle.s2ix_bag_pairs.specs.Collection.{Collection, IsCollection, AreBelow}
use Rattle.s2ix_table_parts.proofs.Cutting.{lists_below, list_rises}
use Rattle.s2ix_table_parts.proofs.change.parts_changed.are_below.Goals as goal

pub returns-then-not-is_empty : goal.returns-then-not-is_empty
returns-then-not-is_empty c test =
    let lists = lists_in c.args.lists in
    let place = c.args.place in
    let d : Collection = [] in
    let r : ℕ = c.args.seam * 2147483648 in
    let some = c.if-place-eq0.false in
    let fits = c.requires.within in
    let within : place - 1 < length lists = omega arith in
    let next : place - 1 + 1 ≡ place = omega arith in
    let last = c.as_slice-last.result.now in
    let is : last ≡ get_or lists (place - 1) d = c.as_slice-last.ensures ∙ c.at.ensures in
    let has : 0 < length last = grind (arith, nat_tests) in
    let rise = list_rises 0 (place - 1) lists d within c.requires.rises in
    let below = c.is_below.ensures test (subst (λ (hs : Collection). IsCollection hs) (sym is) rise) in
    subst (λ (n : ℕ). AreBelow r (all_of (take n lists))) next
    (lists_below r (place - 1) lists d within c.requires.rises (subst (λ (hs : Collection). 0 < length hs) is has)
    (subst (λ (hs : Collection). AreBelow r hs) is below))
