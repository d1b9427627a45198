-- Where faces begin among the parts of a table.
use Rattle.std.specs.Prelude.{◌≡◌, ℕ, ◌+◌, ◌-◌, ◌<◌, List, length, take, drop, slice_index_or, Contains}
use Rattle.s2ix_table_walk.specs.FaceWindows.{face_begin}
use Rattle.s2ix_table_spans.specs.SpanTable.{SpanRanges}
use Rattle.s2ix_table_parts.specs.FaceSpans.{starts_of}

-- each face begins a part
abbrev pub BeginFaces : List SpanRanges → Type 0
BeginFaces parts = (face : ℕ) → face < 6 → Contains (starts_of parts) (face_begin face)

-- for each face the number of its first part, and after the last face how many parts there are
pub record AreFirstParts (starts faces : List ℕ) : Type 0 where
  pub seven : length faces ≡ 7
  pub listed : (face : ℕ) → face < 6 → slice_index_or faces face 0 < length starts
  pub begins : (face : ℕ) → face < 6 → slice_index_or starts (slice_index_or faces face 0) 0 ≡ face_begin face
  pub end : slice_index_or faces 6 0 ≡ length starts

-- the parts of a face, by these numbers
abbrev pub parts_of_face : List SpanRanges → List ℕ → ℕ → List SpanRanges
parts_of_face parts faces face =
    take (slice_index_or faces (face + 1) 0 - slice_index_or faces face 0) (drop (slice_index_or faces face 0) parts)

-- what a face has of a list that has an element for each part, by these numbers
abbrev pub of_face : {A : Type 0} → List A → List ℕ → ℕ → List A
of_face list faces face = take (slice_index_or faces (face + 1) 0 - slice_index_or faces face 0) (drop (slice_index_or faces face 0) list)
