use Rattle.std.proofs.Common.{◌-◌}
use Rattle.s2ix_table_parts.specs.FaceSpans.{heavy_places_of, spans_of}
use Rattle.s2ix_table_parts.proofs.Layering.{Layering}
use Rattle.s2ix_table_parts.proofs.face_parts.over_spans.Given as goal

abbrev pub invariant-loop-start : goal.invariant-loop-start
invariant-loop-start l = Layering l.fn.heavy l.light l.from l.to (spans_of l.parts.items) (heavy_places_of l.parts.items) l.rest l.start

abbrev pub decreases-loop-start : goal.decreases-loop-start
decreases-loop-start l = l.to - l.start
