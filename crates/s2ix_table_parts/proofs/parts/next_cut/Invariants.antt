use Rattle.std.proofs.Common.{◌-◌, ◌≤◌, length, take}
use Rattle.s2ix_bag_lists.specs.Faces.{all_of}
use Rattle.s2ix_bag_lists.specs.View.{lists_in}
use Rattle.s2ix_table_parts.specs.Parts.{EndsBy}
use Rattle.s2ix_table_parts.proofs.parts.next_cut.Given as goal

abbrev pub invariant-loop-count : goal.invariant-loop-count
invariant-loop-count l = (l.count ≤ length (lists_in l.held)) × EndsBy (all_of (take l.count (lists_in l.held))) l.end

abbrev pub decreases-loop-count : goal.decreases-loop-count
decreases-loop-count l = length (lists_in l.held) - l.count
