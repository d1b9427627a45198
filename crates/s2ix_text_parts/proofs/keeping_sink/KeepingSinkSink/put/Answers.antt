use Rattle.std.proofs.Common.{rules}
use Rattle.s2ix_text_parts.proofs.keeping_sink.KeepingSinkSink.put.Goals as goal

pub returns-then-is_fault-clause-bound : goal.returns-then-is_fault-clause-bound
returns-then-is_fault-clause-bound c = search rules

pub returns-then-is_fault-clause-progress : goal.returns-then-is_fault-clause-progress
returns-then-is_fault-clause-progress c = search rules

pub returns-then-is_fault-clause-bytes : goal.returns-then-is_fault-clause-bytes
returns-then-is_fault-clause-bytes c = search rules

pub returns-then-is_fault-clause-unflushed : goal.returns-then-is_fault-clause-unflushed
returns-then-is_fault-clause-unflushed c = search rules

pub returns-then-is_fault-clause-faults : goal.returns-then-is_fault-clause-faults
returns-then-is_fault-clause-faults c = search rules

pub returns-then-is_fault-clause-number : goal.returns-then-is_fault-clause-number
returns-then-is_fault-clause-number c = search rules

pub returns-then-is_fault-clause-fails : goal.returns-then-is_fault-clause-fails
returns-then-is_fault-clause-fails c = search rules

pub returns-then-is_fault-clause-fault_at : goal.returns-then-is_fault-clause-fault_at
returns-then-is_fault-clause-fault_at c = search rules

pub returns-then-is_fault-clause-put_len : goal.returns-then-is_fault-clause-put_len
returns-then-is_fault-clause-put_len c = search rules

pub returns-then-is_fault-clause-flush : goal.returns-then-is_fault-clause-flush
returns-then-is_fault-clause-flush c = search rules

pub returns-clause-bound : goal.returns-clause-bound
returns-clause-bound c = search rules

pub returns-clause-progress : goal.returns-clause-progress
returns-clause-progress c = search rules

pub returns-clause-bytes : goal.returns-clause-bytes
returns-clause-bytes c = search rules

pub returns-clause-unflushed : goal.returns-clause-unflushed
returns-clause-unflushed c = search rules

pub returns-clause-faults : goal.returns-clause-faults
returns-clause-faults c = search rules

pub returns-clause-number : goal.returns-clause-number
returns-clause-number c = search rules

pub returns-clause-fails : goal.returns-clause-fails
returns-clause-fails c = search rules

pub returns-clause-fault_at : goal.returns-clause-fault_at
returns-clause-fault_at c = search rules

pub returns-clause-put_len : goal.returns-clause-put_len
returns-clause-put_len c = search rules

pub returns-clause-flush : goal.returns-clause-flush
returns-clause-flush c = search rules
