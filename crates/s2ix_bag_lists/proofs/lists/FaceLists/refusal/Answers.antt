-- Past the first test no entry mismatches.
use Rattle.std.proofs.Common.{sym, ◌∙◌}
use Rattle.s2ix_bag_lists.proofs.Refusals.{before_from_no_mismatch}
use Rattle.s2ix_bag_lists.proofs.lists.FaceLists.refusal.Goals as goal

pub len_after-requires-clause-before : goal.len_after-requires-clause-before
len_after-requires-clause-before c =
    before_from_no_mismatch c.args.self.now c.args.entries.now (sym c.mismatch.ensures ∙ c.in_default.is)
