-- The parts of a whole table, under the heavy pairs of six faces.
use Rattle.std.specs.Prelude.{List, ◌++◌, map, ◌≡◌, ◌↔◌, Bool, IsTrue, ℕ, ◌+◌, ◌/◌, ◌<◌, ◌≤◌, Option, [], ◌∷◌, length, flat_map, slice_index_or}
use Rattle.s2ix_bag_pairs.specs.Collection.{Collection}
use Rattle.s2ix_table_walk.specs.Table.{Range, leaf_end}
use Rattle.s2ix_table_walk.specs.Contents.{contents_at}
use Rattle.s2id_core.specs.Span.{face_numbers}
use Rattle.s2ix_bag_lists.specs.Faces.{all_of}
use Rattle.s2ix_table_spans.specs.SpanTable.{SpanRanges}
use Rattle.s2ix_table_heavy.specs.Chunks.{AreChunks}
use Rattle.s2ix_table_heavy.specs.declared.heavy_place.HeavyPlace.{HeavyPlace}
use Rattle.s2ix_table_parts.specs.FaceSpans.{AreOnFace, TablePart, face_begin, spans_of}
use Rattle.s2ix_table_parts.specs.Neighbours.{AreNeighbours, held_in}
use Rattle.s2ix_table_faced.specs.Joined.{joined_ranges}
use Rattle.s2ix_table_parts.specs.Layers.{AreUnder, ShareNoCell, ShareNoPair, joined_layers}
use Rattle.s2ix_table_parts.specs.Layered.{IsUnder}

-- ranges, each with more contents behind its own
abbrev pub with_over : Collection → List Range → List Range
with_over over ranges = map (λ (r : Range). record { start = r.start; limit = r.limit; contents = r.contents ++ over }) ranges

-- each part lies under the same heavy pairs at each of its leaves
abbrev pub AreAllUnder : Collection → List SpanRanges → Type 0
AreAllUnder heavy [] = Unit {0}
AreAllUnder heavy (t ∷ ts) = AreUnder heavy t.from t.to (contents_at t.from heavy) × AreAllUnder heavy ts

-- a part with the heavy pairs over it behind the contents of each range
abbrev pub cover : Collection → SpanRanges → SpanRanges
cover heavy t = record { held = t.held; from = t.from; to = t.to; ranges = with_over (contents_at t.from heavy) t.ranges }

-- the same of some parts
abbrev pub covered : Collection → List SpanRanges → List SpanRanges
covered heavy parts = map (cover heavy) parts

-- the chunks of a face, of those of the six faces
abbrev pub chunks_on : List (List Collection) → ℕ → List Collection
chunks_on heavy face = slice_index_or heavy face []

-- the heavy pairs of all faces
abbrev pub heavy_in : List (List Collection) → Collection
heavy_in heavy = flat_map all_of heavy

-- the pairs that parts show, under the heavy pairs of six faces
abbrev pub pairs_of : List TablePart → List (List Collection) → Collection
pairs_of parts heavy = joined_layers (held_in (spans_of parts)) (heavy_in heavy)

-- the ranges that they show
abbrev pub ranges_of : List TablePart → List (List Collection) → List Range
ranges_of parts heavy = joined_ranges (covered (heavy_in heavy) (spans_of parts))

-- the face on which a leaf number lies
abbrev pub face_with : ℕ → ℕ
face_with leaf = leaf / face_numbers

-- a part lies on one face, and under the same heavy pairs of that face at each leaf, to which a place leads
pub record IsLed (heavy : List (List Collection)) (from to : ℕ) (over : Option HeavyPlace) : Type 0 where
  pub on_face : to ≤ face_begin (face_with from + 1)
  pub under : IsUnder (chunks_on heavy (face_with from)) from to over

-- `AreHeavyPlaces` of parts on all faces
abbrev pub AreLed : List (List Collection) → List SpanRanges → List (Option HeavyPlace) → Type 0
AreLed heavy [] heavy_places = length heavy_places ≡ 0
AreLed heavy (t ∷ ts) [] = ⊥
AreLed heavy (t ∷ ts) (over ∷ heavy_places) = IsLed heavy t.from t.to over × AreLed heavy ts heavy_places

-- the heavy pairs of six faces, each on its face, and for each part the place that leads to those over it
pub record AreLayered (heavy : List (List Collection)) (parts : List SpanRanges) (heavy_places : List (Option HeavyPlace)) : Type 0 where
  pub six : length heavy ≡ 6
  pub on_faces : (face : ℕ) → face < 6 → AreOnFace face (all_of (chunks_on heavy face))
  pub led : AreLed heavy parts heavy_places

-- neighbouring parts from the first leaf of face 0 to the last of face 5, under heavy pairs in chunks; no cell has pairs in both
pub record IsLayout (parts : List SpanRanges) (heavy : List (List Collection)) (heavy_places : List (Option HeavyPlace)) : Type 0 where
  pub neighbours : AreNeighbours 1 parts leaf_end
  pub layered : AreLayered heavy parts heavy_places
  pub chunks : (face : ℕ) → face < 6 → AreChunks (chunks_on heavy face)
  pub apart : ShareNoCell (held_in parts) (heavy_in heavy)
  pub within_limit : length (joined_layers (held_in parts) (heavy_in heavy)) ≤ 1000000

-- whether the heavy pairs over two parts are the same; none over one part is a light pair of the other
pub record IsSameOver (held next : Collection) (over next_over : Collection) (same : Bool) : Type 0 where
  pub decided : IsTrue same ↔ (over ≡ next_over)
  pub apart : ShareNoPair held next_over
  pub next_apart : ShareNoPair next over
