use Rattle.std.proofs.Common.{◌<◌, ◌≤◌, ◌-◌, length, max, take}
use Rattle.s2ix_table_heavy.proofs.Cutting.{AllHaveCell}
use Rattle.s2ix_table_heavy.proofs.cut.chunk_len.Given as goal

abbrev pub invariant-loop-len : goal.invariant-loop-len
invariant-loop-len l = (0 < l.len) × (l.len ≤ length l.held) × (l.len ≤ max l.max_len 1) × AllHaveCell l.cell (take l.len l.held)

abbrev pub decreases-loop-len : goal.decreases-loop-len
decreases-loop-len l = length l.held - l.len
