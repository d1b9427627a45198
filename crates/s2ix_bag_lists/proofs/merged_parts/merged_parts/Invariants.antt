use Rattle.std.proofs.Common.{length}
use Rattle.s2ix_bag_lists.specs.Faces.{all_of}
use Rattle.s2ix_bag_lists.specs.View.{lists_in}
use Rattle.s2ix_bag_lists.proofs.Making.{Making}
use Rattle.s2ix_bag_lists.proofs.merged_parts.merged_parts.Given as goal

abbrev pub invariant-loop-first : goal.invariant-loop-first
invariant-loop-first l = Making (all_of (lists_in l.parts)) l.entries l.after.items (lists_in l.ahead) l.rest

abbrev pub decreases-loop-first : goal.decreases-loop-first
decreases-loop-first l = length (lists_in l.ahead)
