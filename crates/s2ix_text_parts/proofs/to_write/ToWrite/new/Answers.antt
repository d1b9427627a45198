use Rattle.std.proofs.Common.{rules}
use Rattle.s2ix_text_parts.proofs.to_write.ToWrite.new.Goals as goal

pub returns-clause-writer : goal.returns-clause-writer
returns-clause-writer g c = search rules

pub returns-clause-faults : goal.returns-clause-faults
returns-clause-faults g c = search rules
