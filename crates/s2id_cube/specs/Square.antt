-- The square of a cell on its face, found digit by digit.
use Rattle.std.specs.Prelude.{ℕ, ◌+◌, ◌*◌, ◌/◌, ◌%◌, List, [], ◌∷◌, slice_index, bit_xor}
use Rattle.s2id_core.specs.Path.{Path}
use Rattle.s2id_cube.specs.declared.face_ij.FaceIj.{FaceIj}

-- the quadrant, 2 * i bit + j bit, of each child position, a row for each orientation
abbrev pub quadrants : List ℕ
quadrants = 0 ∷ 1 ∷ 3 ∷ 2 ∷ 0 ∷ 2 ∷ 3 ∷ 1 ∷ 3 ∷ 2 ∷ 0 ∷ 1 ∷ 3 ∷ 1 ∷ 0 ∷ 2 ∷ []

unfoldable pub quadrant : ℕ → ℕ → ℕ
quadrant orientation position = slice_index quadrants (4 * orientation + position)

-- the orientation of the child at a position
unfoldable pub turned : ℕ → ℕ → ℕ
turned orientation position = bit_xor orientation (slice_index (1 ∷ 0 ∷ 0 ∷ 3 ∷ []) position)

-- the square of the child at a position
unfoldable pub quarter : ℕ → FaceIj → FaceIj
quarter position s =
    record {
      face = s.face;
      i = 2 * s.i + quadrant s.orientation position / 2;
      j = 2 * s.j + quadrant s.orientation position % 2;
      level = s.level + 1;
      orientation = turned s.orientation position;
    }

-- the square of a whole face
unfoldable pub whole_face : ℕ → FaceIj
whole_face face = record { face = face; i = 0; j = 0; level = 0; orientation = face % 2 }

-- the square that the digits lead to
unfoldable pub square_after : FaceIj → List ℕ → FaceIj
square_after s [] = s
square_after s (d ∷ ds) = square_after (quarter d s) ds

-- the square of a cell: one of 2 ^ level columns i and rows j of its face
unfoldable pub square_of : Path → FaceIj
square_of p = square_after (whole_face p.face) p.digits
