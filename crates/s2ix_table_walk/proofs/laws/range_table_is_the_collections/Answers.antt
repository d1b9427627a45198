use Rattle.s2ix_table_walk.proofs.RangeList.{range_table_is, is_range_table}
use Rattle.s2ix_table_walk.proofs.laws.range_table_is_the_collections.Goals as goal

pub returns-clause-table : goal.returns-clause-table
returns-clause-table c = range_table_is

pub returns-clause-only : goal.returns-clause-only
returns-clause-only c = is_range_table
