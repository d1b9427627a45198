-- Past the first test no entry mismatches.
use Rattle.std.proofs.Common.{sym, ◌∙◌}
use Rattle.s2ix_bag_lists.proofs.Refusals.{before_from_no_mismatch}
use Rattle.s2ix_bag.proofs.reached.Reached.refusal_so_far.Goals as goal

pub len_with-requires-clause-before : goal.len_with-requires-clause-before
len_with-requires-clause-before c =
    before_from_no_mismatch c.args.self.now.held c.entries-entries.result.now (sym c.first_misfit.ensures ∙ c.in_default.is)
