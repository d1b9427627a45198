-- Parts of a table, and the spans of faces.
use Rattle.std.specs.Prelude.{◌≡◌, ℕ, Option, List, [], map, slice_index_or, Contains}
use Rattle.std.specs.Arc.{arc_value}
use Rattle.std.specs.declared.sync.Arc.{Arc}
use Rattle.s2id_core.specs.CellId.{face_of}
pub use Rattle.s2ix_table_walk.specs.FaceWindows.{face_begin}
use Rattle.s2ix_bag_pairs.specs.Collection.{Collection}
use Rattle.s2ix_bag_pairs.specs.declared.pair.Held.{Held}
use Rattle.s2ix_table_spans.specs.SpanTable.{SpanRanges}
use Rattle.s2ix_table_heavy.specs.declared.heavy_place.HeavyPlace.{HeavyPlace}

-- all pairs lie on a face
abbrev pub AreOnFace : ℕ → Collection → Type 0
AreOnFace face held = (h : Held) → Contains held h → face_of h.pair.cell ≡ face

-- what shared tables show
abbrev pub tables_of : {Z : Type 0} → List (Arc SpanRanges Z) → List SpanRanges
tables_of tables = map arc_value tables

-- a part: what its table shows, and the place that leads to the heavy pairs over it
pub record TablePart : Type 0 where
  pub table : SpanRanges
  pub heavy_place : Option HeavyPlace

-- what the tables of parts show
abbrev pub spans_of : List TablePart → List SpanRanges
spans_of parts = map (λ p. p.table) parts

-- for each part the place that leads to the heavy pairs over it
abbrev pub heavy_places_of : List TablePart → List (Option HeavyPlace)
heavy_places_of parts = map (λ p. p.heavy_place) parts

-- what stands for the table of no part
abbrev pub no_table : SpanRanges
no_table = record { held = []; from = 0; to = 0; ranges = [] }

-- the table of a part, by the part's number
abbrev pub table_of : List SpanRanges → ℕ → SpanRanges
table_of parts part = slice_index_or parts part no_table

-- the leaf numbers from which on the parts have their spans
abbrev pub starts_of : List SpanRanges → List ℕ
starts_of parts = map (λ t. t.from) parts
