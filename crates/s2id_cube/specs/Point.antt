-- Points of the cube.
use Rattle.std.specs.Prelude.{ℕ, zero, suc, ◌*◌, ◌^◌, ℤ, pos, ◌-ℤ◌, neg_ℤ}

-- coordinates from -2 ^ 30 to 2 ^ 30
pub record Point : Type 0 where
  pub x : ℤ
  pub y : ℤ
  pub z : ℤ

-- the coordinate of a face
abbrev pub one : ℤ
one = pos (2 ^ 30)

-- a column or row of the face grid, 0 to 2 ^ 30, counted from the middle of the face in half squares
abbrev pub centred : ℕ → ℤ
centred n = pos (2 * n) -ℤ pos (2 ^ 30)

-- the point of a corner (i, j) of a face's grid, which has 2 ^ 30 squares along each side
unfoldable pub point_of : ℕ → ℕ → ℕ → Point
point_of zero i j = record { x = one; y = centred i; z = centred j }
point_of (suc zero) i j = record { x = neg_ℤ (centred i); y = one; z = centred j }
point_of (suc (suc zero)) i j = record { x = neg_ℤ (centred i); y = neg_ℤ (centred j); z = one }
point_of (suc (suc (suc zero))) i j = record { x = neg_ℤ one; y = neg_ℤ (centred j); z = neg_ℤ (centred i) }
point_of (suc (suc (suc (suc zero)))) i j = record { x = centred j; y = neg_ℤ one; z = neg_ℤ (centred i) }
point_of (suc (suc (suc (suc (suc _))))) i j = record { x = centred j; y = centred i; z = neg_ℤ one }
