use Rattle.std.proofs.Common.{◌-◌, ◌≤◌, length}
use Rattle.s2ix_bag_lists.specs.View.{lists_in}
use Rattle.s2ix_table_parts.proofs.change.parts_changed.lists_up_to.Given as goal

abbrev pub invariant-loop-place : goal.invariant-loop-place
invariant-loop-place l = l.place ≤ length (lists_in l.lists)

abbrev pub decreases-loop-place : goal.decreases-loop-place
decreases-loop-place l = length (lists_in l.lists) - l.place
