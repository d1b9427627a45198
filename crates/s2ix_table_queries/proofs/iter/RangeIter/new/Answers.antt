use Rattle.std.proofs.Common.{rules}
use Rattle.s2ix_table_queries.proofs.iter.RangeIter.new.Goals as goal

pub returns : goal.returns
returns g c = search rules
