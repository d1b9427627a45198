use Rattle.std.proofs.Common.{rules}
use Rattle.s2ix_table_queries.proofs.meter.MeterReader.row.Goals as goal

pub returns-clause-start : goal.returns-clause-start
returns-clause-start g c = search rules

pub returns-clause-limit : goal.returns-clause-limit
returns-clause-limit g c = search rules
