-- The first pair of the next part is where both are cut.
use Rattle.std.proofs.Common.{◌≡◌, ◌+◌, ◌<◌, [], Some, length, slice_get, sym, subst, arith}
use Rattle.s2ix_bag_pairs.specs.Collection.{Collection}
use Rattle.s2ix_bag_lists.specs.View.{lists_in}
use Rattle.s2ix_bag_lists.proofs.Joins.{filled_at}
use Rattle.s2ix_bag_lists.proofs.Cuts.{cut_at_end, cut_at_part}
use Rattle.s2ix_bag_lists.proofs.part_search.entries_up_to_part.Goals as goal

pub at-requires : goal.at-requires
at-requires c =
    let ps = lists_in c.args.parts in
    let next = c.args.place + 1 in
    let test = c.if-next-len.true in
    let within : next < length ps = omega (arith, c.len.ensures.number) in
    let own = c.at-part.ensures in
    subst (λ (x : Collection). 0 < length x) (sym own) (filled_at ps next [] within c.requires.filled)

pub returns-then-next-len-clause-cut : goal.returns-then-next-len-clause-cut
returns-then-next-len-clause-cut c =
    let ps = lists_in c.args.parts in
    let next = c.args.place + 1 in
    let test = c.if-next-len.true in
    let within : next < length ps = omega (arith, c.len.ensures.number) in
    let own = c.at-part.ensures in
    let first = subst (λ (x : Collection). slice_get x 0 ≡ Some c.at.result) own c.at.ensures in
    cut_at_part ps c.args.place c.entries_before.result c.args.entries.now c.at.result c.requires.rises within first
    c.entries_before.ensures.below c.entries_before.ensures.rest

pub returns-else-next-len-clause-cut : goal.returns-else-next-len-clause-cut
returns-else-next-len-clause-cut c =
    cut_at_end (lists_in c.args.parts) c.args.place (length c.args.entries.now) c.args.entries.now
    (let test = c.if-next-len.false in omega (arith, c.len.ensures.number)) (omega arith)
