use Rattle.std.proofs.Common.{rules}
use Rattle.s2ix_text_parts.proofs.keeping_sink.KeepingSink.new.Goals as goal

pub returns-clause-taken : goal.returns-clause-taken
returns-clause-taken c = search rules

pub returns-clause-flushed : goal.returns-clause-flushed
returns-clause-flushed c = search rules

pub returns-clause-faults : goal.returns-clause-faults
returns-clause-faults c = search rules

pub returns-clause-put_len : goal.returns-clause-put_len
returns-clause-put_len c = search rules

pub returns-clause-fault_at : goal.returns-clause-fault_at
returns-clause-fault_at c = search rules

pub returns-clause-flush : goal.returns-clause-flush
returns-clause-flush c = search rules
