-- Private words: what the private functions promise that find squares and that gather a border. No public contract cites them.
use Rattle.std.specs.Prelude.{◌≡◌, ℕ, zero, suc, ◌+◌, ◌-◌, ◌*◌, ◌/◌, ◌%◌, ◌^◌, ◌<◌, ◌≤◌}
use Rattle.s2id_core.specs.Path.{Path}
use Rattle.s2id_cube.specs.declared.face_ij.FaceIj.{FaceIj}
use Rattle.s2id_cube.specs.Square.{quarter, whole_face, square_of}
use Rattle.s2id_cube.specs.Grid.{IsBeside, column_on, row_on}

-- the square of the cell at a place of level k
unfoldable pub square_at : ℕ → ℕ → FaceIj
square_at zero place = whole_face place
square_at (suc k) place = quarter (place % 4) (square_at k (place / 4))

-- the square of the first g groups of a face's 32 positions, four to a group, of which the first two are 0
unfoldable pub square_in : ℕ → ℕ → ℕ → FaceIj
square_in f g positions = square_at (4 * g) (f * 256 ^ g + positions)

-- the bytes of two words, the highest first, are four bits of i and four of j each: those that stand in the upper halves of the bytes of
-- i and j, and those in the lower halves
pub record AreWoven (i j upper lower : ℕ) : Type 0 where
  pub at_upper : (k : ℕ) → k < 4 → upper * 256 ^ k % 2 ^ 32 / 2 ^ 24 ≡ 16 * (i / 2 ^ (28 - 8 * k) % 16) + j / 2 ^ (28 - 8 * k) % 16
  pub at_lower : (k : ℕ) → k < 4 → lower * 256 ^ k % 2 ^ 32 / 2 ^ 24 ≡ 16 * (i / 2 ^ (24 - 8 * k) % 16) + j / 2 ^ (24 - 8 * k) % 16

-- what every square of a cell of level k is
pub record IsSquare (k : ℕ) (s : FaceIj) : Type 0 where
  pub level : s.level ≡ k
  pub face : s.face < 6
  pub i : s.i < 2 ^ k
  pub j : s.j < 2 ^ k
  pub orientation : s.orientation < 4

-- the square is one of a cell
pub record IsCellSquare (s : FaceIj) : Type 0 where
  pub fine : s.level ≤ 30
  pub is : IsSquare s.level s

-- the square is that of the cell of a level at a place, in this column and row of its ancestor four levels up; `start` is where
-- the tables' row for that ancestor starts
pub record IsInTile (s : FaceIj) (level place start column row : ℕ) : Type 0 where
  pub fine : 4 ≤ level
  pub most : level ≤ 30
  pub below : place < 6 * 4 ^ level
  pub row_starts : start ≡ 256 * (square_at (level - 4) (place / 256)).orientation
  pub column_below : column < 16
  pub row_below : row < 16
  pub is_square : IsSquare level s
  pub face : s.face ≡ (square_at (level - 4) (place / 256)).face
  pub at_i : s.i ≡ 16 * (square_at (level - 4) (place / 256)).i + column
  pub at_j : s.j ≡ 16 * (square_at (level - 4) (place / 256)).j + row

-- the cell is of the square's level, and lies over a side of it
pub record IsOverSide (s : FaceIj) (side : ℕ) (q : Path) : Type 0 where
  pub level_is : (square_of q).level ≡ s.level
  pub beside : let t = square_of q in IsBeside (2 ^ s.level) side s.face s.i s.j t.face t.i t.j

-- Of a square that is cut into 2 ^ depth columns and rows:

-- the cell lies over side `side` of the finer square that lies at place `along` of that side of the square
pub record IsOverAt (s : FaceIj) (depth side along : ℕ) (q : Path) : Type 0 where
  pub level_is : (square_of q).level ≡ s.level + depth
  pub beside : let t = square_of q in IsBeside (2 ^ (s.level + depth)) side s.face (s.i * 2 ^ depth + column_on side along (2 ^ depth - 1)) (s.j * 2 ^ depth + row_on side along (2 ^ depth - 1)) t.face t.i t.j

-- the cell lies over one of the finer squares of the first `count` places of a side
pub record IsOverFirst (s : FaceIj) (depth side count : ℕ) (q : Path) : Type 0 where
  pub along : ℕ
  pub is_along : along < count
  pub over : IsOverAt s depth side along q

-- the cell lies over one of the finer squares of the first `count` sides
pub record IsOverSides (s : FaceIj) (depth count : ℕ) (q : Path) : Type 0 where
  pub side : ℕ
  pub is_side : side < count
  pub over : IsOverFirst s depth side (2 ^ depth) q
