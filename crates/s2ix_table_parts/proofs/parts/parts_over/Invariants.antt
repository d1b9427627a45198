use Rattle.std.proofs.Common.{◌-◌, ◌≤◌, length}
use Rattle.s2ix_bag_lists.specs.View.{lists_in}
use Rattle.s2ix_table_parts.specs.FaceSpans.{tables_of}
use Rattle.s2ix_table_parts.proofs.Parting.{Parting}
use Rattle.s2ix_table_parts.proofs.parts.parts_over.Given as goal

abbrev pub invariant-loop-start : goal.invariant-loop-start
invariant-loop-start l =
    Parting (lists_in l.held) l.from l.to (tables_of l.parts.items) (lists_in l.rest) l.seams l.start × (length (lists_in l.rest) ≤ 1000000)

abbrev pub decreases-loop-start : goal.decreases-loop-start
decreases-loop-start l = l.to - l.start
