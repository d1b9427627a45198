use Rattle.std.proofs.Common.{◌-◌}
use Rattle.s2ix_table_heavy.proofs.CellSearch.{IsNarrowed}
use Rattle.s2ix_table_heavy.proofs.heavy_table.HeavyTable.first_from.Given as goal

abbrev pub invariant-loop-low : goal.invariant-loop-low
invariant-loop-low l = IsNarrowed l.self-inside.chunks.items l.cell l.low l.high

abbrev pub decreases-loop-low : goal.decreases-loop-low
decreases-loop-low l = l.high - l.low
