use Rattle.std.proofs.Common.{◌≤◌, take}
use Rattle.s2ix_table_parts.specs.Parts.{EndsBy}
use Rattle.s2ix_table_parts.proofs.parts.greatest_end.Given as goal

abbrev pub invariant-loop-h : goal.invariant-loop-h
invariant-loop-h l = (l.fn.least ≤ l.greatest) × EndsBy (take l.h-index l.held) l.greatest
