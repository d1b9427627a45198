use Rattle.std.proofs.Common.{take}
use Rattle.s2ix_table_heavy.proofs.ChangingChunk.{AreEntriesOf}
use Rattle.s2ix_table_heavy.proofs.heavy_table.HeavyTable.takes_all.Given as goal

abbrev pub invariant-loop-entry : goal.invariant-loop-entry
invariant-loop-entry l = AreEntriesOf l.self l.number (take l.entry-index l.entries)
