-- A part's start is what comes before it; behind the last part that is all.
use Rattle.std.proofs.Common.{◌≡◌, [], List, ap, ◌∙◌, take, drop, length, arith}
use Rattle.std.proofs.lemmas.List.{drop_all}
use Rattle.s2ix_bag_pairs.specs.Collection.{Collection}
use Rattle.s2ix_bag_lists.specs.Faces.{all_of}
use Rattle.s2ix_bag_lists.specs.View.{lists_in}
use Rattle.s2ix_bag_lists.proofs.Places.{starts_is, starts_long}
use Rattle.s2ix_bag_lists.proofs.Running.{length_parted}
use Rattle.s2ix_bag_lists.proofs.part_list.pairs_before.Goals as goal

pub returns-then-part-starts : goal.returns-then-part-starts
returns-then-part-starts c =
    let ps = lists_in c.args.parts in
    let long = starts_long c.args.starts.now ps c.requires.counted in
    starts_is c.args.starts.now ps c.args.part c.requires.counted (omega (arith, long, c.if-part-starts.true))

pub returns-else-part-starts : goal.returns-else-part-starts
returns-else-part-starts c =
    let ps = lists_in c.args.parts in
    let part = c.args.part in
    let long = starts_long c.args.starts.now ps c.requires.counted in
    let none : drop part ps ≡ [] = drop_all part ps (omega (arith, long, c.if-part-starts.false)) in
    let empty = ap (λ (x : List Collection). length (all_of x)) none in
    let whole : length (all_of ps) ≡ length (all_of (take part ps)) = omega (arith, length_parted ps part, empty) in
    c.requires.whole ∙ whole
