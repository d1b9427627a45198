use Rattle.std.proofs.Common.{◌-◌, ◌≤◌, length, take}
use Rattle.s2ix_table_parts.specs.Parts.{EntriesEndBy}
use Rattle.s2ix_table_parts.proofs.change.parts_changed.Span.next_seam.Given as goal

abbrev pub invariant-loop-entries : goal.invariant-loop-entries
invariant-loop-entries l = (l.entries ≤ length l.self.entries.now) × EntriesEndBy (take l.entries l.self.entries.now) l.reach

abbrev pub decreases-loop-entries : goal.decreases-loop-entries
decreases-loop-entries l = length l.self.entries.now - l.entries
