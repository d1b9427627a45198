use Rattle.std.proofs.Common.{◌≤◌, length}
use Rattle.s2ix_bag_lists.proofs.cut.last_end.Given as goal

abbrev pub invariant-loop-len : goal.invariant-loop-len
invariant-loop-len l = l.len ≤ length l.ends

abbrev pub decreases-loop-len : goal.decreases-loop-len
decreases-loop-len l = l.len
