use Rattle.s2ix_table_spans.proofs.Sweeping.{in_all}
use Rattle.s2ix_table_tests.proofs.parts_tests.has_changed_tables.Goals as goal

pub changed_tables-requires-clause-span : goal.changed_tables-requires-clause-span
changed_tables-requires-clause-span c = in_all _
