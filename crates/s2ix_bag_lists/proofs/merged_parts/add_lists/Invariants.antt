use Rattle.std.proofs.Common.{◌≡◌, ◌++◌, length}
use Rattle.s2ix_bag_lists.specs.Faces.{all_of}
use Rattle.s2ix_bag_lists.specs.Parts.{AreFilled}
use Rattle.s2ix_bag_lists.specs.View.{lists_in}
use Rattle.s2ix_bag_lists.proofs.merged_parts.add_lists.Given as goal

abbrev pub invariant-loop-own : goal.invariant-loop-own
invariant-loop-own l =
    (all_of l.out.items ++ all_of (lists_in l.rest) ≡ all_of l.fn.out.items ++ all_of (lists_in l.parts))
    × AreFilled l.out.items
    × AreFilled (lists_in l.rest)

abbrev pub decreases-loop-own : goal.decreases-loop-own
decreases-loop-own l = length (lists_in l.rest)
