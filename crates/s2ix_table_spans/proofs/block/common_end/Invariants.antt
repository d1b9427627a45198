use Rattle.std.proofs.Common.{◌≡◌, ◌+◌, ◌-◌, ◌≤◌, length, drop}
use Rattle.s2ix_table_spans.proofs.block.common_end.Given as goal

abbrev pub invariant-loop-end : goal.invariant-loop-end
invariant-loop-end l =
    (l.front + l.end ≤ length l.held) × (l.front + l.end ≤ length l.next)
    × (drop (length l.next - l.end) l.next ≡ drop (length l.held - l.end) l.held)

abbrev pub decreases-loop-end : goal.decreases-loop-end
decreases-loop-end l = l.most - l.end
