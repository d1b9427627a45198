-- The offsets of the parts before the next one are right.
use Rattle.std.proofs.Common.{◌≡◌, ◌-◌, ◌<◌, ◌≤◌, length, max, take}
use Rattle.s2ix_table_parts.specs.FaceSpans.{spans_of}
use Rattle.s2ix_table_faced.specs.Layout.{covered, heavy_in}
use Rattle.s2ix_table_faced.specs.Offsets.{offsets_of, AreOffsetsFrom}
use Rattle.s2ix_table_faced.proofs.layout.Layout.count_from.Given as goal

abbrev pub invariant-loop-next : goal.invariant-loop-next
invariant-loop-next l =
    (0 < l.next)
    × (l.next ≤ length l.self.parts.now)
    × (length l.offsets ≡ length l.self.parts.now)
    × (take l.next l.offsets ≡ take l.next (offsets_of (covered (heavy_in l.self.heavy.now) (spans_of l.self.parts.now))))
    × AreOffsetsFrom (max l.next l.end) l.offsets (covered (heavy_in l.self.heavy.now) (spans_of l.self.parts.now))

abbrev pub decreases-loop-next : goal.decreases-loop-next
decreases-loop-next l = length l.self.parts.now - l.next
