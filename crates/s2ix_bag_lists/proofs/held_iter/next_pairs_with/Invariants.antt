-- The parts that are passed over have no pair with the label.
use Rattle.std.proofs.Common.{◌≡◌, ◌++◌, ◌≤◌, length}
use Rattle.s2ix_bag_pairs.specs.OfLabel.{held_of}
use Rattle.s2ix_bag_lists.specs.Faces.{all_of}
use Rattle.s2ix_bag_lists.specs.Parts.{AreFilled}
use Rattle.s2ix_bag_lists.specs.View.{held_from, lists_in}
use Rattle.s2ix_bag_lists.proofs.held_iter.next_pairs_with.Given as goal

abbrev pub invariant-loop-part : goal.invariant-loop-part
invariant-loop-part l =
    (held_of l.label (all_of l.parts.now ++ held_from l.bundles l.later.now) ≡ held_of l.label (all_of l.initial.parts.now ++ held_from l.initial.bundles l.initial.later.now))
    × AreFilled l.parts.now
    × AreFilled (lists_in l.bundles)
    × (length (all_of l.parts.now ++ held_from l.bundles l.later.now) ≤ length (all_of l.initial.parts.now ++ held_from l.initial.bundles l.initial.later.now))

abbrev pub decreases-loop-part : goal.decreases-loop-part
decreases-loop-part l = length (held_from l.bundles l.later.now)
