-- The cell over a side of a cell, by its number.
use Rattle.std.specs.Prelude.{ℕ, zero, suc, ◌+◌, ◌-◌, ◌*◌, ◌^◌, ◌==◌, ◌&&◌, ◌||◌, not, if◌then◌else◌, Bool, length}
use Rattle.std.specs.Ordering.{int_eq}
use Rattle.s2id_core.specs.Path.{Path, path_at, place_of}
use Rattle.s2id_cube.specs.declared.face_ij.FaceIj.{FaceIj}
use Rattle.s2id_cube.specs.Square.{square_of}
use Rattle.s2id_cube.specs.Point.{Point}
use Rattle.s2id_cube.specs.Edge.{side_start, side_end}

-- whether two points are one
abbrev pub is_point : Point → Point → Bool
is_point a b = int_eq a.x b.x && (int_eq a.y b.y && int_eq a.z b.z)

-- whether they are the same two points, in one order or the other
abbrev pub are_one_side : Point → Point → Point → Point → Bool
are_one_side a b c d = (is_point a c && is_point b d) || (is_point a d && is_point b c)

-- whether side m of the first square is side o of the second
unfoldable pub is_same_side : ℕ → FaceIj → ℕ → FaceIj → Bool
is_same_side m s o t = are_one_side (side_start m s) (side_end m s) (side_start o t) (side_end o t)

-- whether side m of the first square is a side of the second
abbrev pub is_side_of : ℕ → FaceIj → FaceIj → Bool
is_side_of m s t = is_same_side m s 0 t || (is_same_side m s 1 t || (is_same_side m s 2 t || is_same_side m s 3 t))

-- whether some side of the first square is a side of the second
abbrev pub have_one_side : FaceIj → FaceIj → Bool
have_one_side s t = is_side_of 0 s t || (is_side_of 1 s t || (is_side_of 2 s t || is_side_of 3 s t))

-- whether two cells share an edge: they are of one level, at two places, and some side of the first is one of the second
unfoldable pub share_edge : Path → Path → Bool
share_edge p q =
    length p.digits == length q.digits && (not (place_of p == place_of q) && have_one_side (square_of p) (square_of q))

-- the number of the cell of level k at a place along the whole curve
abbrev pub number_at : ℕ → ℕ → ℕ
number_at k place = (2 * place + 1) * 4 ^ (30 - k)

-- the number below the bound that passes a test: the last if several do, 0 if none does
unfoldable pub passing_below : (ℕ → Bool) → ℕ → ℕ
passing_below test zero = 0
passing_below test (suc n) = if test n then n else passing_below test n

-- whether the cell of the same level at this place is another that has side m too
abbrev pub is_over : ℕ → Path → ℕ → Bool
is_over m p place = not (place == place_of p) && is_side_of m (square_of p) (square_of (path_at (number_at (length p.digits) place)))

-- the number of the cell over side m: of the cells of its level, the other one that has this side
unfoldable pub neighbor_number : ℕ → Path → ℕ
neighbor_number m p = number_at (length p.digits) (passing_below (is_over m p) (6 * 4 ^ length p.digits))
