use Rattle.std.proofs.Common.{◌<◌, length}
use Rattle.s2ix_table_parts.proofs.change.parts_changed.Span.front_cut.Given as goal

abbrev pub invariant-loop-tables : goal.invariant-loop-tables
invariant-loop-tables l = 0 < l.tables → l.tables < length l.self.tables.now

abbrev pub decreases-loop-tables : goal.decreases-loop-tables
decreases-loop-tables l = l.tables
