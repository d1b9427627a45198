-- The pairs that are gained and lost.
use Rattle.std.proofs.Common.{length, ap, ◌∙◌, subst, arith}
use Rattle.s2ix_bag_pairs.specs.Collection.{Collection, IsCollection}
use Rattle.s2ix_bag_lists.proofs.Lengths.{length-changed, gains-count_by, losses-count_by}
use Rattle.s2ix_bag_lists.proofs.AmongFaces.{faces_rise}
use Rattle.s2ix_bag_lists.proofs.lists.FaceLists.len_after.Goals as goal

pub overflow_sub-result : goal.overflow_sub-result
overflow_sub-result c =
    let es = c.args.entries.now in
    let rises = subst IsCollection c.self.view_is (faces_rise c.self.inside.lists c.self.invariant.apart) in
    let lengths = length-changed c.args.self.now es rises c.requires.entries_rise c.requires.before in
    let counted = c.self.invariant.counted ∙ ap (λ (hs : Collection). length hs) c.self.view_is in
    omega (arith, lengths, counted, gains-count_by es, losses-count_by es, c.gains.ensures, c.losses.ensures)

pub returns : goal.returns
returns c =
    let es = c.args.entries.now in
    let rises = subst IsCollection c.self.view_is (faces_rise c.self.inside.lists c.self.invariant.apart) in
    let lengths = length-changed c.args.self.now es rises c.requires.entries_rise c.requires.before in
    let counted = c.self.invariant.counted ∙ ap (λ (hs : Collection). length hs) c.self.view_is in
    omega (arith, lengths, counted, gains-count_by es, losses-count_by es, c.gains.ensures, c.losses.ensures)
