use Rattle.std.proofs.Common.{◌+◌, ◌<◌, ◌≤◌, ◌-◌, length}
use Rattle.s2ix_bag_lists.proofs.cut.coarsest_end.Given as goal

abbrev pub invariant-loop-len : goal.invariant-loop-len
invariant-loop-len l = (0 < l.len) × (0 < l.end) × (l.end ≤ length l.held)

abbrev pub decreases-loop-len : goal.decreases-loop-len
decreases-loop-len l = l.most + 1 - l.len
