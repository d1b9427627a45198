use Rattle.s2ix_table_heavy.proofs.MakingMarks.{AreFirstMarks}
use Rattle.s2ix_table_heavy.proofs.marks.marks_of.Given as goal

abbrev pub invariant-loop-number : goal.invariant-loop-number
invariant-loop-number l = AreFirstMarks l.chunks l.number l.marks.items
