-- The lines so far are those of the entries.
use Rattle.std.proofs.Common.{◌-◌, length}
use Rattle.s2ix_text.proofs.Reading.{IsGroupSoFar}
use Rattle.s2ix_text.proofs.group.read_group.Given as goal

abbrev pub invariant-loop-limits : goal.invariant-loop-limits
invariant-loop-limits l = IsGroupSoFar l.greatest l.limits l.text l.wanted l.entries.items l.rest

abbrev pub decreases-loop-limits : goal.decreases-loop-limits
decreases-loop-limits l = l.wanted - length l.entries.items
