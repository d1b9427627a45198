use Rattle.std.proofs.Common.{◌≡◌, ◌-◌, ◌≤◌, length, take}
use Rattle.s2ix_table_parts.specs.FaceSpans.{spans_of, starts_of}
use Rattle.s2ix_table_faced.proofs.part_begins.begin_at.Given as goal

abbrev pub invariant-loop-part : goal.invariant-loop-part
invariant-loop-part l = (l.part ≤ length l.parts) × (take l.part (starts_of (spans_of l.parts)) ≡ take l.part l.starts)

abbrev pub decreases-loop-part : goal.decreases-loop-part
decreases-loop-part l = length l.parts - l.part
