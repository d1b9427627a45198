-- The pairs that came are counted.
use Rattle.std.proofs.Common.{◌≡◌, ◌++◌, length, map}
use Rattle.s2ix_edit_store.specs.HeldLabels.{total_of}
use Rattle.s2ix_edit_store.proofs.held_labels.count_pairs.Given as goal

abbrev pub invariant-loop-held : goal.invariant-loop-held
invariant-loop-held l =
    (l.yielded ++ l.held-iterator ≡ l.bag.held) × (l.totals ≡ map (total_of l.yielded) l.labels) × (length l.totals ≡ length l.labels)
