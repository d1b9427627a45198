use Rattle.std.proofs.Common.{◌≡◌, ◌%◌, ◌≤◌, take}
use Rattle.s2ix_table_parts.specs.Parts.{BeginsFrom}
use Rattle.s2ix_table_parts.proofs.parts.least_begin.Given as goal

abbrev pub invariant-loop-h : goal.invariant-loop-h
invariant-loop-h l = (l.least % 2 ≡ 1) × (l.least ≤ l.most) × BeginsFrom (take l.h-index l.held) l.least
