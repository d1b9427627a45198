use Rattle.std.proofs.Common.{rules}
use Rattle.s2ix_table_queries.proofs.meter.MeterReader.range_count.Goals as goal

pub returns : goal.returns
returns g c = search rules
