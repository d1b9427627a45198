use Rattle.std.proofs.Common.{◌≤◌, length, take}
use Rattle.s2ix_table_parts.specs.FaceSpans.{spans_of}
use Rattle.s2ix_table_parts.specs.Neighbours.{held_in}
use Rattle.s2ix_table_parts.proofs.change.light_after.count_in_parts.Given as goal

abbrev pub invariant-loop-part : goal.invariant-loop-part
invariant-loop-part l = l.count ≤ length (held_in (spans_of (take l.part-index l.parts)))
