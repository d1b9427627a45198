-- Cells that share an edge.
use Rattle.std.specs.Prelude.{◌≡◌, ◌≢◌, ◌⊎◌, ℕ, zero, suc, ◌+◌, ◌-◌, ◌*◌, ◌^◌, ◌<◌, length}
use Rattle.s2id_core.specs.Path.{Path}
use Rattle.s2id_cube.specs.declared.face_ij.FaceIj.{FaceIj}
use Rattle.s2id_cube.specs.Square.{square_of}
use Rattle.s2id_cube.specs.Point.{Point, point_of}

-- the point of the corner in column i and row j of the grid of a square's level, on its face
unfoldable pub corner : FaceIj → ℕ → ℕ → Point
corner s i j = point_of s.face (i * 2 ^ (30 - s.level)) (j * 2 ^ (30 - s.level))

-- the two ends of a side of a square: 0 is down, 1 is right, 2 is up, 3 is left
unfoldable pub side_start : ℕ → FaceIj → Point
side_start zero s = corner s s.i s.j
side_start (suc zero) s = corner s (s.i + 1) s.j
side_start (suc (suc zero)) s = corner s s.i (s.j + 1)
side_start (suc (suc (suc _))) s = corner s s.i s.j

unfoldable pub side_end : ℕ → FaceIj → Point
side_end zero s = corner s (s.i + 1) s.j
side_end (suc zero) s = corner s (s.i + 1) (s.j + 1)
side_end (suc (suc zero)) s = corner s (s.i + 1) (s.j + 1)
side_end (suc (suc (suc _))) s = corner s s.i (s.j + 1)

-- the same two points, in one order or the other
abbrev pub AreOneSide : Point → Point → Point → Point → Type 0
AreOneSide a b c d = ((a ≡ c) × (b ≡ d)) ⊎ ((a ≡ d) × (b ≡ c))

-- two distinct cells of one level, if side m of the first is a side of the second
pub record SharesSide (m : ℕ) (p q : Path) : Type 0 where
  pub apart : p ≢ q
  pub one_level : length p.digits ≡ length q.digits
  pub other : ℕ
  pub is_side : other < 4
  pub one_side : AreOneSide (side_start m (square_of p)) (side_end m (square_of p)) (side_start other (square_of q)) (side_end other (square_of q))

-- two distinct cells of one level have two corner points in common that bound a side of each
pub record ShareEdge (p q : Path) : Type 0 where
  pub side : ℕ
  pub is_side : side < 4
  pub shares : SharesSide side p q
