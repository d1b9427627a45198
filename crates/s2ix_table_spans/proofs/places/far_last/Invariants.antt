use Rattle.s2ix_table_spans.specs.Starts.{IsAmong}
use Rattle.s2ix_table_spans.proofs.places.far_last.Given as goal

abbrev pub invariant-loop-size : goal.invariant-loop-size
invariant-loop-size l = IsAmong l.starts l.leaf l.first l.size

abbrev pub decreases-loop-size : goal.decreases-loop-size
decreases-loop-size l = l.size
