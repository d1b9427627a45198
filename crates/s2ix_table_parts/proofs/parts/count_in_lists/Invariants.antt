use Rattle.std.proofs.Common.{◌≤◌, length, take}
use Rattle.s2ix_bag_lists.specs.Faces.{all_of}
use Rattle.s2ix_bag_lists.specs.View.{lists_in}
use Rattle.s2ix_table_parts.proofs.parts.count_in_lists.Given as goal

abbrev pub invariant-loop-place : goal.invariant-loop-place
invariant-loop-place l = l.count ≤ length (all_of (take l.place (lists_in l.lists)))
