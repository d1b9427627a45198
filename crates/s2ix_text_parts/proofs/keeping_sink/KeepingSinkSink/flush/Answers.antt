use Rattle.std.proofs.Common.{rules}
use Rattle.s2ix_text_parts.proofs.keeping_sink.KeepingSinkSink.flush.Goals as goal

pub returns-then-self-clause-bytes : goal.returns-then-self-clause-bytes
returns-then-self-clause-bytes c = search rules

pub returns-then-self-clause-call : goal.returns-then-self-clause-call
returns-then-self-clause-call c = search rules

pub returns-then-self-clause-failed : goal.returns-then-self-clause-failed
returns-then-self-clause-failed c = search rules

pub returns-then-self-clause-faults : goal.returns-then-self-clause-faults
returns-then-self-clause-faults c = search rules

pub returns-then-self-clause-fails : goal.returns-then-self-clause-fails
returns-then-self-clause-fails c = search rules

pub returns-then-self-clause-fault_at : goal.returns-then-self-clause-fault_at
returns-then-self-clause-fault_at c = search rules

pub returns-then-self-clause-put_len : goal.returns-then-self-clause-put_len
returns-then-self-clause-put_len c = search rules

pub returns-then-self-clause-flush : goal.returns-then-self-clause-flush
returns-then-self-clause-flush c = search rules

pub returns-clause-bytes : goal.returns-clause-bytes
returns-clause-bytes c = search rules

pub returns-clause-call : goal.returns-clause-call
returns-clause-call c = search rules

pub returns-clause-failed : goal.returns-clause-failed
returns-clause-failed c = search rules

pub returns-clause-faults : goal.returns-clause-faults
returns-clause-faults c = search rules

pub returns-clause-fails : goal.returns-clause-fails
returns-clause-fails c = search rules

pub returns-clause-fault_at : goal.returns-clause-fault_at
returns-clause-fault_at c = search rules

pub returns-clause-put_len : goal.returns-clause-put_len
returns-clause-put_len c = search rules

pub returns-clause-flush : goal.returns-clause-flush
returns-clause-flush c = search rules
