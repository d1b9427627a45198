use Rattle.std.proofs.Common.{arith}
use Rattle.s2ix_table_faced.proofs.starts.first_parts.Goals as goal

pub first_part-requires-4-clause-begins : goal.first_part-requires-4-clause-begins
first_part-requires-4-clause-begins c = c.requires.begins 3 (omega arith)

pub first_part-requires-5-clause-begins : goal.first_part-requires-5-clause-begins
first_part-requires-5-clause-begins c = c.requires.begins 4 (omega arith)

pub first_part-requires-6-clause-begins : goal.first_part-requires-6-clause-begins
first_part-requires-6-clause-begins c = c.requires.begins 5 (omega arith)
