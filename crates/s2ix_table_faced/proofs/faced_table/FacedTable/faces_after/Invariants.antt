-- The faces before this one are made.
use Rattle.std.proofs.Common.{◌≡◌, length}
use Rattle.s2ix_bag_pairs.specs.Change.{changed}
use Rattle.s2ix_table_parts.specs.FaceSpans.{heavy_places_of, spans_of}
use Rattle.s2ix_table_faced.specs.Layout.{pairs_of}
use Rattle.s2ix_table_faced.proofs.LayersMade.{AreLayersMade}
use Rattle.s2ix_table_faced.proofs.faced_table.FacedTable.faces_after.Given as goal

abbrev pub invariant-loop-face : goal.invariant-loop-face
invariant-loop-face l =
    AreLayersMade (changed (pairs_of l.self.parts.items l.self.heavy) l.change) l.all.heavy (spans_of l.all.parts.items)
    (heavy_places_of l.all.parts.items) l.face
    × (length l.all.heavy ≡ 6)
