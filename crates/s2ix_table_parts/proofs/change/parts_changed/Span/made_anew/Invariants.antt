use Rattle.std.proofs.Common.{◌≡◌, ◌++◌, ◌≤◌, length, drop}
use Rattle.s2ix_bag_lists.specs.Faces.{all_of}
use Rattle.s2ix_bag_lists.specs.View.{lists_in}
use Rattle.s2ix_table_parts.specs.FaceSpans.{spans_of, tables_of}
use Rattle.s2ix_table_parts.specs.Neighbours.{AreNeighbours, held_in}
use Rattle.s2ix_table_parts.specs.Parts.{AreBegins, IsChangedSpan}
use Rattle.s2ix_table_parts.proofs.change.parts_changed.Span.made_anew.Given as goal

abbrev pub invariant-loop-rest : goal.invariant-loop-rest
invariant-loop-rest l =
    IsChangedSpan (spans_of l.rest.tables.now) (lists_in l.rest.lists) l.rest.entries.now l.rest.from l.rest.to
    × AreBegins l.rest.entries.now l.begins
    × AreNeighbours l.self.from (tables_of l.parts.items) l.rest.from
    × (held_in (tables_of l.parts.items) ++ all_of (lists_in l.rest.lists) ≡ all_of (lists_in l.self.lists))
    × (l.rest.to ≡ l.self.to)
    × (l.count ≤ length l.self.tables.now)
    × (l.rest.tables.now ≡ drop l.count l.self.tables.now)

abbrev pub decreases-loop-rest : goal.decreases-loop-rest
decreases-loop-rest l = length l.rest.tables.now
