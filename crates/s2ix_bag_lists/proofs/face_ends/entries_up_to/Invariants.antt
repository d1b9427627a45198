use Rattle.std.proofs.Common.{length, take, ◌+◌, ◌-◌, ◌≤◌}
use Rattle.s2ix_bag_lists.specs.Faces.{AreEntriesBelow, face_start}
use Rattle.s2ix_bag_lists.proofs.face_ends.entries_up_to.Given as goal

abbrev pub invariant-loop-count : goal.invariant-loop-count
invariant-loop-count l = (l.count ≤ length l.entries) × AreEntriesBelow (face_start (l.face + 1)) (take l.count l.entries)

abbrev pub decreases-loop-count : goal.decreases-loop-count
decreases-loop-count l = length l.entries - l.count
