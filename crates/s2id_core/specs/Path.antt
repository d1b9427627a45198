-- Cells as paths on the S2 curve: a face of the cube, and a child position for each level.
use Rattle.std.specs.Prelude.{ℕ, zero, suc, ◌+◌, ◌-◌, ◌*◌, ◌/◌, ◌%◌, ◌^◌, ◌<◌, ◌≤◌, List, [], ◌∷◌, ◌++◌, length, map, take, replicate, All}
use Rattle.std.specs.Int.{w64, trailing_zeros}

-- a face, and the child positions from level 1 down
pub record Path : Type 0 where
  pub face : ℕ
  pub digits : List ℕ

-- a face 0 to 5, and at most 30 child positions 0 to 3
pub record IsPath (p : Path) : Type 0 where
  pub face_below : p.face < 6
  pub at_most : length p.digits ≤ 30
  pub digits_below : All (λ d. d < 4) p.digits

-- d1 * 2 ^ k + d2 * 2 ^ (k - 2) + d3 * 2 ^ (k - 4) + .., over the digits d1, d2, d3, ..
unfoldable pub digits_from : ℕ → List ℕ → ℕ
digits_from k [] = 0
digits_from k (d ∷ ds) = d * 2 ^ k + digits_from (k - 2) ds

-- a cell's number: face * 2 ^ 61 + d1 * 2 ^ 59 + d2 * 2 ^ 57 + .. + dn * 2 ^ (61 - 2 * n) + 4 ^ (30 - n)
unfoldable pub number_of : Path → ℕ
number_of p = p.face * 2 ^ 61 + digits_from 59 p.digits + 4 ^ (30 - length p.digits)

-- the digits read as one number in base 4, d1 the highest
unfoldable pub base_four : List ℕ → ℕ
base_four [] = 0
base_four (d ∷ ds) = d * 4 ^ length ds + base_four ds

-- which cell of its level a cell is along the whole curve, counted from 0 at the first of face 0
unfoldable pub place_of : Path → ℕ
place_of p = p.face * 4 ^ length p.digits + base_four p.digits

-- ---- back from a number

-- the last k digits of q in base 4, the highest first
unfoldable pub last_digits : ℕ → ℕ → List ℕ
last_digits zero q = []
last_digits (suc k) q = q / 4 ^ k % 4 ∷ last_digits k q

-- the level that the place of a number's lowest 1 says
unfoldable pub level_at : ℕ → ℕ
level_at n = 30 - trailing_zeros w64 n / 2

-- the path that is read from a number: three bits of face, then two bits for each level
unfoldable pub path_at : ℕ → Path
path_at n = record { face = n / 2 ^ 61; digits = last_digits (level_at n) (n / 2 ^ (61 - 2 * level_at n)) }

-- ---- cells above and below

-- the cell of level k that a cell of level k or finer lies in
unfoldable pub ancestor : ℕ → Path → Path
ancestor k p = record { face = p.face; digits = take k p.digits }

-- the child at position d
unfoldable pub child : ℕ → Path → Path
child d p = record { face = p.face; digits = p.digits ++ d ∷ [] }

-- the first and the last leaf of a cell along the curve
unfoldable pub first_leaf : Path → Path
first_leaf p = record { face = p.face; digits = p.digits ++ replicate (30 - length p.digits) 0 }

unfoldable pub last_leaf : Path → Path
last_leaf p = record { face = p.face; digits = p.digits ++ replicate (30 - length p.digits) 3 }

-- the face, a slash (47), and the child positions from level 1 down, in digits (`0` is 48)
unfoldable pub readable_path : Path → List ℕ
readable_path p = (48 + p.face) ∷ 47 ∷ map (λ d. 48 + d) p.digits
