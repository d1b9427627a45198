use Rattle.std.proofs.Common.{◌+◌, ◌≤◌, length}
use Rattle.s2ix_table_spans.specs.Starts.{IsAmong}
use Rattle.s2ix_table_faced.proofs.starts.last_by.Given as goal

abbrev pub invariant-loop-size : goal.invariant-loop-size
invariant-loop-size g l = IsAmong (g.T.Begins.begins l.list) l.number l.first l.size × (l.first + l.size ≤ length l.list)

abbrev pub decreases-loop-size : goal.decreases-loop-size
decreases-loop-size g l = l.size
