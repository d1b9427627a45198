use Rattle.std.proofs.Common.{◌≡◌, ◌+◌, ◌≤◌, length, drop}
use Rattle.s2ix_table_parts.specs.Parts.{AreBegins, EntriesBeginFrom}
use Rattle.s2ix_table_parts.proofs.change.parts_changed.begins_from.Given as goal

abbrev pub invariant-loop-left : goal.invariant-loop-left
invariant-loop-left l =
    (l.left ≤ length l.entries)
    × (length l.begins.items ≡ length l.entries + 1)
    × EntriesBeginFrom (drop l.left l.entries) l.least
    × AreBegins (drop l.left l.entries) (drop l.left l.begins.items)

abbrev pub decreases-loop-left : goal.decreases-loop-left
decreases-loop-left l = l.left
