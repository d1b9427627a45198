-- Past the first test no entry mismatches.
use Rattle.std.proofs.Common.{sym, ◌∙◌}
use Rattle.s2ix_bag_pairs.specs.Change.{inverse_of}
use Rattle.s2ix_bag_lists.proofs.Refusals.{before_from_no_mismatch}
use Rattle.s2ix_bag.proofs.Inverted.{mismatch_of_inverse}
use Rattle.s2ix_bag.proofs.replay_refusal.refusal_back.Goals as goal

pub length_back-requires-clause-before : goal.length_back-requires-clause-before
length_back-requires-clause-before c =
    let es = c.entries-entries.result.now in
    before_from_no_mismatch c.args.bag.now.held (inverse_of es)
    (mismatch_of_inverse c.args.bag.now es ∙ sym c.mismatch_back.ensures ∙ c.in_default.is)
