use Rattle.std.proofs.Common.{◌≡◌, ◌++◌, length}
use Rattle.s2ix_bag_lists.specs.Faces.{all_of}
use Rattle.s2ix_bag_lists.specs.View.{lists_in}
use Rattle.s2ix_table_parts.proofs.parts.in_one_list.Given as goal

abbrev pub invariant-loop-list : goal.invariant-loop-list
invariant-loop-list l = l.all.items ++ all_of (lists_in l.rest) ≡ all_of (lists_in l.held)

abbrev pub decreases-loop-list : goal.decreases-loop-list
decreases-loop-list l = length (lists_in l.rest)
