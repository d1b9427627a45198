use Rattle.std.proofs.Common.{◌≡◌, ◌++◌}
use Rattle.s2ix_bag_pairs.specs.OfLabel.{held_of}
use Rattle.s2ix_edit_plan.proofs.Relabel.{moves}
use Rattle.s2ix_edit_plan.proofs.edits.relabel.plan_moves.Given as goal

abbrev pub invariant-loop-held : goal.invariant-loop-held
invariant-loop-held l =
    (l.entries.items ≡ moves l.bag.held l.target l.yielded) × (l.yielded ++ l.held-iterator ≡ held_of l.fn.source l.bag.held)
