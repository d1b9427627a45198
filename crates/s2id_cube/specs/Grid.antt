-- Points of the cube in whole numbers, counted from its lowest corner in squares of one level: n of them to a side.
use Rattle.std.specs.Prelude.{◌≡◌, ℕ, zero, suc, ◌+◌, ◌-◌, ◌*◌, ◌<◌}

pub record Spot : Type 0 where
  pub x : ℕ
  pub y : ℕ
  pub z : ℕ

-- column u and row v of a face's grid of n squares a side
unfoldable pub spot : ℕ → ℕ → ℕ → ℕ → Spot
spot n zero u v = record { x = n; y = u; z = v }
spot n (suc zero) u v = record { x = n - u; y = n; z = v }
spot n (suc (suc zero)) u v = record { x = n - u; y = n - v; z = n }
spot n (suc (suc (suc zero))) u v = record { x = 0; y = n - v; z = n - u }
spot n (suc (suc (suc (suc zero)))) u v = record { x = v; y = 0; z = n - u }
spot n (suc (suc (suc (suc (suc f))))) u v = record { x = v; y = u; z = 0 }

-- the middle of side m of the square in column i and row j, in half squares
unfoldable pub mid_u : ℕ → ℕ → ℕ
mid_u zero i = 2 * i + 1
mid_u (suc zero) i = 2 * i + 2
mid_u (suc (suc zero)) i = 2 * i + 1
mid_u (suc (suc (suc m))) i = 2 * i

unfoldable pub mid_v : ℕ → ℕ → ℕ
mid_v zero j = 2 * j
mid_v (suc zero) j = 2 * j + 1
mid_v (suc (suc zero)) j = 2 * j + 2
mid_v (suc (suc (suc m))) j = 2 * j + 1

unfoldable pub middle : ℕ → ℕ → ℕ → ℕ → ℕ → Spot
middle n m f i j = spot (2 * n) f (mid_u m i) (mid_v m j)

-- the square (g, a, b) is another than (f, i, j), and side m of this one is a side of it
pub record IsBeside (n m f i j g a b : ℕ) : Type 0 where
  pub face : g < 6
  pub column : a < n
  pub row : b < n
  pub other : ℕ
  pub is_side : other < 4
  pub same : middle n m f i j ≡ middle n other g a b
  pub apart : (f ≡ g) × (i ≡ a) × (j ≡ b) → ⊥

-- the column and the row of a square that lies on a side of its face, by its place along the side
unfoldable pub column_on : ℕ → ℕ → ℕ → ℕ
column_on zero along last = along
column_on (suc zero) along last = last
column_on (suc (suc zero)) along last = along
column_on (suc (suc (suc m))) along last = 0

unfoldable pub row_on : ℕ → ℕ → ℕ → ℕ
row_on zero along last = 0
row_on (suc zero) along last = along
row_on (suc (suc zero)) along last = last
row_on (suc (suc (suc m))) along last = along
