-- The faces before this one are made.
use Rattle.std.proofs.Common.{◌≡◌, length}
use Rattle.s2ix_table_parts.specs.FaceSpans.{heavy_places_of, spans_of}
use Rattle.s2ix_table_faced.proofs.LayersMade.{AreLayersMade}
use Rattle.s2ix_table_faced.proofs.all_faces.read_all_faces.Given as goal

abbrev pub invariant-loop-face : goal.invariant-loop-face
invariant-loop-face g l =
    let shown = g.B.PairReader.shown l.fn.reader in
    AreLayersMade shown l.all.heavy (spans_of l.all.parts.items) (heavy_places_of l.all.parts.items) l.face
    × (length l.all.heavy ≡ 6)
    × (g.B.PairReader.shown l.reader ≡ shown)
