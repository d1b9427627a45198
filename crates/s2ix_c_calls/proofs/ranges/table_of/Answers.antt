-- A range table of the collection is the one that it has.
use Rattle.s2ix_c_calls.proofs.ranges.table_of.Goals as goal

pub returns : goal.returns
returns c = c.range_table_is_the_collections.ensures.only _ _ c.table.ensures.table
