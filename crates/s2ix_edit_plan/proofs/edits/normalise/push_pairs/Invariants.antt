-- What was appended and what is still to come make up the whole.
use Rattle.std.proofs.Common.{◌≡◌, ◌++◌}
use Rattle.s2ix_edit_plan.proofs.edits.normalise.push_pairs.Given as goal

abbrev pub invariant-loop-held : goal.invariant-loop-held
invariant-loop-held l = l.pairs.items ++ l.held-iterator ≡ l.fn.pairs.items ++ l.fn.left
