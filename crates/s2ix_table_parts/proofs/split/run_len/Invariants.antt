use Rattle.std.proofs.Common.{length, ◌-◌, ◌<◌, ◌≤◌}
use Rattle.s2ix_table_parts.proofs.Runs.{AreOfFirstCell}
use Rattle.s2ix_table_parts.proofs.split.run_len.Given as goal

abbrev pub invariant-loop-len : goal.invariant-loop-len
invariant-loop-len l = (0 < l.len) × (l.len ≤ length l.pairs) × AreOfFirstCell l.pairs l.len

-- proposed from the loop's first test
abbrev pub decreases-loop-len : goal.decreases-loop-len
decreases-loop-len l = length l.pairs - l.len
