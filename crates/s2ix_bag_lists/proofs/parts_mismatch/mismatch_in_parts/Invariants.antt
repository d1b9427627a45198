use Rattle.std.proofs.Common.{◌≤◌, length}
use Rattle.s2ix_bag_lists.specs.Faces.{all_of}
use Rattle.s2ix_bag_lists.specs.View.{lists_in}
use Rattle.s2ix_bag_lists.proofs.Mismatches.{PartsCompared}
use Rattle.s2ix_bag_lists.proofs.parts_mismatch.mismatch_in_parts.Given as goal

abbrev pub invariant-loop-first : goal.invariant-loop-first
invariant-loop-first l =
    (length (lists_in l.ahead) ≤ length (lists_in l.parts))
    × PartsCompared (all_of (lists_in l.parts)) l.entries (lists_in l.ahead) l.rest l.passed

abbrev pub decreases-loop-first : goal.decreases-loop-first
decreases-loop-first l = length (lists_in l.ahead)
