-- Each block is what goes on of its part.
use Rattle.std.proofs.Common.{sym, subst}
use Rattle.s2ix_bag_pairs.specs.Collection.{Collection}
use Rattle.s2ix_bag_lists.specs.Parts.{IsPartAt}
use Rattle.s2ix_table_kept.proofs.ReadBlocks.{copied_more}
use Rattle.s2ix_table_kept.proofs.bag_reader.BagReader.copied.Goals as goal

pub loop-place-preserved : goal.loop-place-preserved
loop-place-preserved c =
    let hs = c.args.self.now.bag.now.held in
    let place = c.loop-place.place in
    let before = c.part_at-before.result.0 in
    let part = c.as_slice-part.result.now in
    let at =
    subst (λ (own : Collection). IsPartAt place hs before own) (sym c.as_slice-part.ensures) c.part_at-before.ensures in
    copied_more hs part c.loop-place.held.items c.extend_from_slice.new.self.items c.args.from c.args.to place before c.min.result
    c.loop-place.invariant c.loop-place-test.true at.begins at.ends c.min.ensures at.part c.in_ok-extend_from_slice.ensures.items
