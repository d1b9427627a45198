use Rattle.std.proofs.Common.{◌≡◌, ◌+◌, ◌++◌, length}
use Rattle.s2ix_bag_lists.specs.Faces.{all_of}
use Rattle.s2ix_bag_lists.specs.Parts.{starts_from}
use Rattle.s2ix_bag_lists.proofs.part_list.push_starts.Given as goal

abbrev pub invariant-loop-part : goal.invariant-loop-part
invariant-loop-part l =
    (l.starts.items ++ starts_from l.start l.rest ≡ l.fn.starts.items ++ starts_from l.before l.parts)
    × (l.start + length (all_of l.rest) ≡ l.before + length (all_of l.parts))

abbrev pub decreases-loop-part : goal.decreases-loop-part
decreases-loop-part l = length l.rest
