-- What was passed over has no pair with the label.
use Rattle.std.proofs.Common.{◌≡◌, ◌++◌, length}
use Rattle.s2ix_bag_lists.specs.Faces.{all_of}
use Rattle.s2ix_bag_lists.specs.Parts.{AreFilled}
use Rattle.s2ix_bag_lists.specs.View.{held_from, lists_in}
use Rattle.s2ix_bag_pairs.specs.OfLabel.{held_of}
use Rattle.s2ix_bag_lists.proofs.held_iter.HeldIter.next_of.Given as goal

abbrev pub invariant-loop-label : goal.invariant-loop-label
invariant-loop-label l =
    (held_of l.label (l.self-inside.rest.now ++ (all_of l.self-inside.parts.now ++ held_from l.self-inside.bundles l.self-inside.later.now))
    ≡ held_of l.label (l.initial.self-inside.rest.now ++ (all_of l.initial.self-inside.parts.now ++ held_from l.initial.self-inside.bundles l.initial.self-inside.later.now)))
    × AreFilled l.self-inside.parts.now
    × AreFilled (lists_in l.self-inside.bundles)

abbrev pub decreases-loop-label : goal.decreases-loop-label
decreases-loop-label l = length (all_of l.self-inside.parts.now ++ held_from l.self-inside.bundles l.self-inside.later.now)
