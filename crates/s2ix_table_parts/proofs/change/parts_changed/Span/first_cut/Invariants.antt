use Rattle.std.proofs.Common.{◌-◌, ◌<◌, ◌≤◌, length, take}
use Rattle.s2ix_bag_lists.specs.View.{lists_in}
use Rattle.s2ix_table_parts.specs.Parts.{EntriesEndBy}
use Rattle.s2ix_table_parts.proofs.change.parts_changed.Span.first_cut.Given as goal

abbrev pub invariant-loop-cut : goal.invariant-loop-cut
invariant-loop-cut l =
    (l.cut.tables < length l.self.tables.now)
    × (l.cut.lists ≤ length (lists_in l.self.lists))
    × (l.cut.entries ≤ length l.self.entries.now)
    × EntriesEndBy (take l.cut.entries l.self.entries.now) l.cut.reach

abbrev pub decreases-loop-cut : goal.decreases-loop-cut
decreases-loop-cut l = length l.self.tables.now - l.cut.tables
