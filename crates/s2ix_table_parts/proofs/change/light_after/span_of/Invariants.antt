use Rattle.std.proofs.Common.{take}
use Rattle.s2ix_table_parts.specs.Parts.{EntriesBeginFrom, EntriesEndBy}
use Rattle.s2ix_table_parts.proofs.change.light_after.span_of.Given as goal

abbrev pub invariant-loop-entry : goal.invariant-loop-entry
invariant-loop-entry l = EntriesBeginFrom (take l.entry-index l.entries) l.begin × EntriesEndBy (take l.entry-index l.entries) l.reach
