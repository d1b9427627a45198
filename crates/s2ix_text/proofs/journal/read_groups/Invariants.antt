-- The groups so far are those of the changes.
use Rattle.std.proofs.Common.{length}
use Rattle.s2ix_text.proofs.Reading.{IsJournalSoFar}
use Rattle.s2ix_text.proofs.journal.read_groups.Given as goal

abbrev pub invariant-loop-line : goal.invariant-loop-line
invariant-loop-line l = IsJournalSoFar l.greatest l.limits l.text l.changes.items l.number l.rest

abbrev pub decreases-loop-line : goal.decreases-loop-line
decreases-loop-line l = length l.rest
