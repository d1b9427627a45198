use Rattle.std.proofs.Common.{rules}
use Rattle.s2ix_text_parts.proofs.slice_source.SliceSource.new.Goals as goal

pub returns-clause-left : goal.returns-clause-left
returns-clause-left c = search rules

pub returns-clause-faults : goal.returns-clause-faults
returns-clause-faults c = search rules

pub returns-clause-piece_len : goal.returns-clause-piece_len
returns-clause-piece_len c = search rules

pub returns-clause-fault_at : goal.returns-clause-fault_at
returns-clause-fault_at c = search rules
