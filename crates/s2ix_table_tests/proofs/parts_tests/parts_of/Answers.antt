use Rattle.s2ix_table_spans.proofs.Sweeping.{in_all}
use Rattle.s2ix_table_tests.proofs.parts_tests.parts_of.Goals as goal

pub parts_over-requires-clause-span : goal.parts_over-requires-clause-span
parts_over-requires-clause-span c = in_all _
