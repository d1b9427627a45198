-- The pairs that are gained and lost.
use Rattle.std.proofs.Common.{arith}
use Rattle.s2ix_bag_lists.proofs.Reverts.{length-taken_back}
use Rattle.s2ix_bag_changes.proofs.revert.length_back.Goals as goal

pub overflow_sub-result : goal.overflow_sub-result
overflow_sub-result c =
    let lengths =
    length-taken_back c.args.bag.now.held c.args.entries.now c.len.ensures.within.rises c.requires.entries_rise c.requires.above in
    omega (arith, lengths, c.len.ensures.number, c.gains.ensures, c.losses.ensures)

pub returns : goal.returns
returns c =
    let lengths =
    length-taken_back c.args.bag.now.held c.args.entries.now c.len.ensures.within.rises c.requires.entries_rise c.requires.above in
    omega (arith, lengths, c.len.ensures.number, c.gains.ensures, c.losses.ensures)
