-- What is in the list and what is still to come make up the whole.
use Rattle.std.proofs.Common.{◌≡◌, ◌++◌}
use Rattle.s2ix_table.proofs.copied_pairs.held_pairs.Given as goal

abbrev pub invariant-loop-held : goal.invariant-loop-held
invariant-loop-held l = l.list.items ++ l.held-iterator ≡ l.bag.held
