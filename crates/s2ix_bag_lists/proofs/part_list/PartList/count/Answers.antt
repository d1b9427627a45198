-- A pair is held in its own part alone.
use Rattle.std.proofs.Common.{sym, ap, ◌∙◌, subst}
use Rattle.s2ix_bag_pairs.specs.Collection.{Collection, IsCollection, count_at}
use Rattle.s2ix_bag_pairs.specs.Pair.{rank_of}
use Rattle.s2ix_bag_lists.specs.View.{lists_in}
use Rattle.s2ix_bag_lists.proofs.Places.{part_rises, count_in_part}
use Rattle.s2ix_bag_lists.proofs.part_list.PartList.count.Goals as goal

pub count_of-requires : goal.count_of-requires
count_of-requires c =
    let ps = lists_in c.parts-parts.result in
    let i = c.part_of-part.result in
    let rises = subst (λ (x : Collection). IsCollection x) (sym c.parts-parts.ensures.list) c.parts-parts.ensures.rises in
    subst (λ (x : Collection). IsCollection x) (sym (c.as_slice.ensures ∙ c.at.ensures)) (part_rises ps i c.part_of-part.ensures.within rises)

pub returns : goal.returns
returns c =
    let ps = lists_in c.parts-parts.result in
    let i = c.part_of-part.result in
    let rank = rank_of c.args.pair in
    let found = c.part_of-part.ensures in
    c.count_of.ensures
    ∙ ap (λ (x : Collection). count_at x rank) (c.as_slice.ensures ∙ c.at.ensures)
    ∙ sym (count_in_part ps i rank found.within found.below found.rest)
    ∙ ap (λ (x : Collection). count_at x rank) c.parts-parts.ensures.list
