use Rattle.std.proofs.Common.{◌≡◌, ◌++◌, length}
use Rattle.s2ix_bag_lists.specs.Faces.{all_of}
use Rattle.s2ix_bag_lists.specs.View.{lists_in}
use Rattle.s2ix_bag_lists.proofs.held_parts.append_parts.Given as goal

abbrev pub invariant-loop-own : goal.invariant-loop-own
invariant-loop-own l = l.all.items ++ all_of (lists_in l.rest) ≡ l.fn.all.items ++ all_of (lists_in l.parts)

abbrev pub decreases-loop-own : goal.decreases-loop-own
decreases-loop-own l = length (lists_in l.rest)
