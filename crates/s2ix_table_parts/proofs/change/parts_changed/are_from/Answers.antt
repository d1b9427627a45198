use Rattle.std.proofs.Common.{◌≡◌, ◌<◌, ◌*◌, ℕ, [], length, get_or, sym, ◌∙◌, subst, arith}
use Rattle.s2ix_bag_lists.specs.View.{lists_in}
use Rattle.s2ix_bag_pairs.specs.Collection.{Collection, IsCollection, IsCollectionFrom}
use Rattle.s2ix_table_parts.proofs.Cutting.{lists_from, list_rises}
use Rattle.s2ix_table_parts.proofs.change.parts_changed.are_from.Goals as goal

pub returns-else-place-len : goal.returns-else-place-len
returns-else-place-len c test =
    let lists = lists_in c.args.lists in
    let place = c.args.place in
    let d : Collection = [] in
    let r : ℕ = c.args.seam * 2147483648 in
    let fits = c.requires.within in
    let other = c.if-place-len.false in
    let within : place < length lists = omega (arith, c.len.ensures.number) in
    let own = c.as_slice.result.now in
    let is : own ≡ get_or lists place d = c.as_slice.ensures ∙ c.at.ensures in
    let rise = list_rises 0 place lists d within c.requires.rises in
    let from = c.is_from.ensures.from test (subst (λ (hs : Collection). IsCollection hs) (sym is) rise) in
    lists_from r place lists d within c.requires.rises (subst (λ (hs : Collection). 0 < length hs) is (c.is_from.ensures.some test))
    (subst (λ (hs : Collection). IsCollectionFrom r hs) is from)
