use Rattle.std.proofs.Common.{length, ◌-◌, ◌≤◌}
use Rattle.s2ix_bag_lists.proofs.search.next_from.Given as goal

abbrev pub invariant-loop-high : goal.invariant-loop-high
invariant-loop-high l = 1 ≤ l.high

abbrev pub decreases-loop-high : goal.decreases-loop-high
decreases-loop-high l = length l.held - l.high
