use Rattle.s2ix_table_queries.proofs.Yielding.{yields_ranges}
use Rattle.s2ix_table_queries.proofs.iter.ranges.Goals as goal

pub returns-clause-gives : goal.returns-clause-gives
returns-clause-gives g c = yields_ranges g.T.RangeTable.ranges c.new.result _ c.new.ensures.left
