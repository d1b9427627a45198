use Rattle.std.proofs.Common.{◌≤◌, ◌-◌, ◌+◌, ◌*◌, length, take}
use Rattle.s2ix_bag_lists.specs.Faces.{AreEntriesBelow}
use Rattle.s2ix_table_parts.proofs.change.chunks_after.count_before.Given as goal

abbrev pub invariant-loop-count : goal.invariant-loop-count
invariant-loop-count l = (l.count ≤ length l.entries) × AreEntriesBelow (l.number * 2147483648 + l.label) (take l.count l.entries)

abbrev pub decreases-loop-count : goal.decreases-loop-count
decreases-loop-count l = length l.entries - l.count
