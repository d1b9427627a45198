use Rattle.std.proofs.Common.{rules}
use Rattle.s2ix_table_queries.proofs.meter.Meter.new.Goals as goal

pub returns-clause-shown : goal.returns-clause-shown
returns-clause-shown g c = search rules

pub returns-clause-unread : goal.returns-clause-unread
returns-clause-unread g c = search rules
