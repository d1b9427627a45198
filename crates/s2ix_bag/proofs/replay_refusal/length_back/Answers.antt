-- The pairs that are gained and lost.
use Rattle.std.proofs.Common.{arith}
use Rattle.s2ix_bag_pairs.specs.Change.{inverse_of}
use Rattle.s2ix_bag_pairs.proofs.Inverse.{inverse_keeps}
use Rattle.s2ix_bag_lists.proofs.Lengths.{length-changed, gains-count_by, losses-count_by}
use Rattle.s2ix_bag.proofs.Inverted.{gains-inverse, losses-inverse}
use Rattle.s2ix_bag.proofs.replay_refusal.length_back.Goals as goal

pub overflow_sub-result : goal.overflow_sub-result
overflow_sub-result c =
    let es = c.args.entries.now in
    let lengths =
    length-changed c.args.bag.now.held (inverse_of es) c.len.ensures.within.rises (inverse_keeps es c.requires.rises) c.requires.before in
    omega (
      arith,
      lengths,
      c.len.ensures.number,
      gains-inverse es,
      losses-inverse es,
      gains-count_by es,
      losses-count_by es,
      c.gains.ensures,
      c.losses.ensures,
    )

pub returns : goal.returns
returns c =
    let es = c.args.entries.now in
    let lengths =
    length-changed c.args.bag.now.held (inverse_of es) c.len.ensures.within.rises (inverse_keeps es c.requires.rises) c.requires.before in
    omega (
      arith,
      lengths,
      c.len.ensures.number,
      gains-inverse es,
      losses-inverse es,
      gains-count_by es,
      losses-count_by es,
      c.gains.ensures,
      c.losses.ensures,
    )
