-- Faces in two layers: light pairs in neighbouring parts, and heavy pairs in chunks over them.
use Rattle.std.specs.Prelude.{◌≡◌, ◌&&◌, ◌||◌, nat_lt, Bool, ℕ, ◌+◌, ◌≤◌, Option, List, [], ◌∷◌, ◌++◌, length, take, drop, Contains}
use Rattle.std.specs.List.{list_any}
use Rattle.s2id_core.specs.CellId.{first_of, end_of}
use Rattle.s2id_core.specs.declared.cell_id.CellId.{CellId}
use Rattle.s2ix_bag_lists.specs.Faces.{all_of}
use Rattle.s2ix_bag_pairs.specs.Collection.{Collection}
use Rattle.s2ix_bag_pairs.specs.declared.pair.Entry.{Entry}
use Rattle.s2ix_table_walk.specs.Contents.{contents_at}
use Rattle.s2ix_table_walk.specs.Places.{LeadsTo}
use Rattle.s2ix_table_spans.specs.Blocks.{HoldsCell}
use Rattle.s2ix_table_spans.specs.SpanTable.{SpanRanges}
use Rattle.s2ix_table_heavy.specs.Chunks.{AreChunks}
use Rattle.s2ix_table_heavy.specs.HeavyChains.{heavy_chain}
use Rattle.s2ix_table_heavy.specs.declared.heavy_place.HeavyPlace.{HeavyPlace}
use Rattle.s2ix_table_parts.specs.FaceSpans.{AreOnFace, TablePart, face_begin, spans_of}
use Rattle.s2ix_table_parts.specs.Neighbours.{AreNeighbours, held_in}
use Rattle.s2ix_table_parts.specs.Parts.{with_parts}
use Rattle.s2ix_table_parts.specs.Layers.{AreUnder, ShareNoCell, holds_cell, joined_layers}

-- a span lies under the same heavy pairs at each of its leaves, and this place leads to them
pub record IsUnder (chunks : List Collection) (from to : ℕ) (heavy_place : Option HeavyPlace) : Type 0 where
  pub same : AreUnder (all_of chunks) from to (contents_at from (all_of chunks))
  pub leads : LeadsTo (heavy_chain chunks) heavy_place (contents_at from (all_of chunks))

-- for each part the place that leads to the heavy pairs over it
abbrev pub AreHeavyPlaces : List Collection → List SpanRanges → List (Option HeavyPlace) → Type 0
AreHeavyPlaces chunks [] heavy_places = heavy_places ≡ []
AreHeavyPlaces chunks (t ∷ ts) [] = ⊥
AreHeavyPlaces chunks (t ∷ ts) (heavy_place ∷ heavy_places) = IsUnder chunks t.from t.to heavy_place × AreHeavyPlaces chunks ts heavy_places

-- parts hold light pairs, and over each of them lie the same heavy pairs, to which its place leads
pub record AreLightParts (chunks : List Collection) (light : Collection) (from : ℕ) (parts : List SpanRanges) (heavy_places : List (Option HeavyPlace)) (to : ℕ) : Type 0 where
  pub neighbours : AreNeighbours from parts to
  pub pairs : held_in parts ≡ light
  pub are_heavy_places : AreHeavyPlaces chunks parts heavy_places

-- the parts of a face and the chunks over them; no cell has pairs in both
pub record IsFaceLayered (face : ℕ) (chunks : List Collection) (parts : List SpanRanges) (heavy_places : List (Option HeavyPlace)) : Type 0 where
  pub neighbours : AreNeighbours (face_begin face) parts (face_begin (face + 1))
  pub are_chunks : AreChunks chunks
  pub on_face : AreOnFace face (all_of chunks)
  pub apart : ShareNoCell (held_in parts) (all_of chunks)
  pub are_heavy_places : AreHeavyPlaces chunks parts heavy_places

-- once other parts take the place of a face's parts with numbers from `first` on and before `end`, and these heavy pairs lie over all of
-- them, the face has exactly the pairs `held`
pub record IsFaceWith (face : ℕ) (held : Collection) (parts : List SpanRanges) (heavy_places : List (Option HeavyPlace)) (first end : ℕ) (made : List SpanRanges) (made_heavy_places : List (Option HeavyPlace)) (heavy : List Collection) : Type 0 where
  pub order : first ≤ end
  pub within : end ≤ length parts
  pub same_length : length made_heavy_places ≡ length made
  pub layered : IsFaceLayered face heavy (with_parts parts first end made) (take first heavy_places ++ (made_heavy_places ++ drop end heavy_places))
  pub pairs : joined_layers (held_in (with_parts parts first end made)) (all_of heavy) ≡ held

-- the pairs of a face: those of its parts and of the chunks over them
abbrev pub face_pairs : List TablePart → List Collection → Collection
face_pairs parts chunks = joined_layers (held_in (spans_of parts)) (all_of chunks)

-- no entry's cell is that of a heavy pair
abbrev pub HaveLightCells : List Entry → Collection → Type 0
HaveLightCells entries heavy = (e : Entry) → Contains entries e → HoldsCell heavy e.pair.cell → ⊥

-- no entry's cell is that of a held pair
abbrev pub HaveOtherCells : List Entry → Collection → Type 0
HaveOtherCells entries held = (e : Entry) → Contains entries e → HoldsCell held e.pair.cell → ⊥

-- whether a part begins within a cell, after the cell's first leaf
abbrev pub is_cut : List SpanRanges → CellId → Bool
is_cut parts cell = list_any (λ t. nat_lt (first_of cell) t.from && nat_lt t.from (end_of cell)) parts

-- whether the pairs of a cell go over the parts: it has heavy pairs, or a part begins within it
abbrev pub goes_over : List SpanRanges → Collection → CellId → Bool
goes_over parts heavy cell = holds_cell heavy cell || is_cut parts cell
