use Rattle.std.proofs.Common.{◌+◌, ◌<◌, ◌-◌}
use Rattle.s2ix_bag_lists.proofs.cut.first_end.Given as goal

abbrev pub invariant-loop-len : goal.invariant-loop-len
invariant-loop-len l = 0 < l.len

abbrev pub decreases-loop-len : goal.decreases-loop-len
decreases-loop-len l = l.most + 1 - l.len
