use Rattle.std.proofs.Common.{◌≤◌, ◌-◌, length, take}
use Rattle.s2ix_bag_lists.specs.Faces.{AreEntriesBelow}
use Rattle.s2ix_bag_pairs.specs.Pair.{rank_of}
use Rattle.s2ix_bag_lists.proofs.part_search.entries_before.Given as goal

abbrev pub invariant-loop-count : goal.invariant-loop-count
invariant-loop-count l = (l.count ≤ length l.entries) × AreEntriesBelow (rank_of l.pair) (take l.count l.entries)

abbrev pub decreases-loop-count : goal.decreases-loop-count
decreases-loop-count l = length l.entries - l.count
