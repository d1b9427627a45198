use Rattle.std.proofs.Common.{rules}
use Rattle.s2ix_text_parts.proofs.from_read.FromRead.new.Goals as goal

pub returns-clause-reader : goal.returns-clause-reader
returns-clause-reader g c = search rules

pub returns-clause-faults : goal.returns-clause-faults
returns-clause-faults g c = search rules
