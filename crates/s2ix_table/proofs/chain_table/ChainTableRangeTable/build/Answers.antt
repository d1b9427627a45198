use Rattle.s2ix_table_spans.proofs.Sweeping.{in_all}
use Rattle.s2ix_table.proofs.chain_table.ChainTableRangeTable.build.Goals as goal

pub over-requires-clause-span : goal.over-requires-clause-span
over-requires-clause-span c = in_all c.in_ok-held.held
