use Rattle.std.proofs.Common.{◌≡◌, take}
use Rattle.s2ix_table_parts.specs.FaceSpans.{spans_of, starts_of}
use Rattle.s2ix_table_parts.proofs.part.begins_of.Given as goal

abbrev pub invariant-loop-part : goal.invariant-loop-part
invariant-loop-part l = l.begins.items ≡ take l.part-index (starts_of (spans_of l.parts))
