-- What is passed over are lists without parts.
use Rattle.std.proofs.Common.{◌≡◌, length}
use Rattle.s2ix_bag_lists.specs.Parts.{AreFilled}
use Rattle.s2ix_bag_lists.specs.View.{held_from, lists_in}
use Rattle.s2ix_bag_lists.proofs.held_iter.next_bundle.Given as goal

abbrev pub invariant-loop-list : goal.invariant-loop-list
invariant-loop-list l =
    (held_from l.initial.bundles l.initial.later.now ≡ held_from l.bundles l.later.now) × AreFilled (lists_in l.bundles)

abbrev pub decreases-loop-list : goal.decreases-loop-list
decreases-loop-list l = length l.later.now
