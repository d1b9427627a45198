use Rattle.s2ix_table_parts.specs.FaceSpans.{heavy_places_of, spans_of}
use Rattle.s2ix_table_parts.proofs.UnderParts.{Under}
use Rattle.s2ix_table_parts.proofs.change.heavy_after.parts_under.Given as goal

abbrev pub invariant-loop-k : goal.invariant-loop-k
invariant-loop-k l =
    Under l.fn.heavy l.from (spans_of l.parts) (spans_of l.made.items) (heavy_places_of l.made.items) l.known.0 l.known.1 l.begin l.k
