-- The lines so far are those of what is held.
use Rattle.std.proofs.Common.{length}
use Rattle.s2ix_text_write.specs.Version.{dump_header}
use Rattle.s2ix_text.proofs.NextDumpLines.{IsReadSoFar}
use Rattle.s2ix_text.proofs.dump.read_below.Given as goal

abbrev pub invariant-loop-held : goal.invariant-loop-held
invariant-loop-held l = IsReadSoFar l.limits (dump_header l.version) l.text l.held.items l.copies l.rest

abbrev pub decreases-loop-held : goal.decreases-loop-held
decreases-loop-held l = length l.rest
