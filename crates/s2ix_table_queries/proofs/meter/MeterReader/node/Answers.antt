use Rattle.std.proofs.Common.{rules}
use Rattle.s2ix_table_queries.proofs.meter.MeterReader.node.Goals as goal

pub returns-clause-held : goal.returns-clause-held
returns-clause-held g c = search rules

pub returns-clause-same : goal.returns-clause-same
returns-clause-same g c = search rules

pub returns-clause-counts : goal.returns-clause-counts
returns-clause-counts g c = search rules
