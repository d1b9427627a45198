use Rattle.std.proofs.Common.{◌≡◌, ◌+◌, ◌≤◌, length, drop}
use Rattle.s2ix_bag_lists.specs.Faces.{all_of}
use Rattle.s2ix_bag_lists.specs.View.{lists_in}
use Rattle.s2ix_table_parts.specs.Parts.{IsSeam, AreSeams}
use Rattle.s2ix_table_parts.proofs.parts.seams_before.Given as goal

abbrev pub invariant-loop-left : goal.invariant-loop-left
invariant-loop-left l =
    (l.left ≤ length (lists_in l.held))
    × (length l.seams.items ≡ length (lists_in l.held) + 1)
    × IsSeam (all_of (drop l.left (lists_in l.held))) l.to l.least
    × AreSeams (drop l.left (lists_in l.held)) (drop l.left l.seams.items) l.to

abbrev pub decreases-loop-left : goal.decreases-loop-left
decreases-loop-left l = l.left
