use Rattle.std.proofs.Common.{◌≡◌, ◌-◌, ◌≤◌, length, take}
use Rattle.s2ix_table_spans.proofs.block.common_front.Given as goal

abbrev pub invariant-loop-front : goal.invariant-loop-front
invariant-loop-front l = (l.front ≤ length l.held) × (l.front ≤ length l.next) × (take l.front l.next ≡ take l.front l.held)

abbrev pub decreases-loop-front : goal.decreases-loop-front
decreases-loop-front l = l.most - l.front
