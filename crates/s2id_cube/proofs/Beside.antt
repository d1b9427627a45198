-- The square beside a square over a side: on its own face, or over an edge of the cube.
use Rattle.std.proofs.Common.{◌≡◌, ℕ, zero, suc, ◌+◌, ◌-◌, ◌*◌, ◌<◌, ◌≤◌, List, [], ◌∷◌, get_or, ◌≢◌, sym, ◌∙◌, ap, ap₂, refl, arith}
use mathlib.Core.Path.{transport}
use Rattle.s2id_cube.specs.Grid.{spot, mid_u, mid_v, middle, IsBeside, column_on, row_on}
use Rattle.s2id_cube.proofs.Cases.{Four, four, six}
use Rattle.s2id_cube.proofs.Grid.{AreOneSpot, IsStep, spot_is}

-- the twelve edges of the cube, each from both of its faces, four sides for each face
abbrev pub faces_over : List ℕ
faces_over = 5 ∷ 1 ∷ 2 ∷ 4 ∷ 5 ∷ 3 ∷ 2 ∷ 0 ∷ 1 ∷ 3 ∷ 4 ∷ 0 ∷ 1 ∷ 5 ∷ 4 ∷ 2 ∷ 3 ∷ 5 ∷ 0 ∷ 2 ∷ 3 ∷ 1 ∷ 0 ∷ 4 ∷ []

abbrev pub sides_over : List ℕ
sides_over = 2 ∷ 3 ∷ 3 ∷ 2 ∷ 1 ∷ 0 ∷ 0 ∷ 1 ∷ 2 ∷ 3 ∷ 3 ∷ 2 ∷ 1 ∷ 0 ∷ 0 ∷ 1 ∷ 2 ∷ 3 ∷ 3 ∷ 2 ∷ 1 ∷ 0 ∷ 0 ∷ 1 ∷ []

abbrev pub reversals : List ℕ
reversals = 0 ∷ 0 ∷ 1 ∷ 1 ∷ 1 ∷ 1 ∷ 0 ∷ 0 ∷ 0 ∷ 0 ∷ 1 ∷ 1 ∷ 1 ∷ 1 ∷ 0 ∷ 0 ∷ 0 ∷ 0 ∷ 1 ∷ 1 ∷ 1 ∷ 1 ∷ 0 ∷ 0 ∷ []

-- the place along the side over an edge
unfoldable pub along_over : ℕ → ℕ → ℕ → ℕ
along_over zero along last = along
along_over (suc r) along last = last - along

abbrev pub IsOver : ℕ → ℕ → ℕ → ℕ → Type 0
IsOver along last f m =
    IsBeside (last + 1) m f (column_on m along last) (row_on m along last) (get_or faces_over (4 * f + m) 0)
    (column_on (get_or sides_over (4 * f + m) 0) (along_over (get_or reversals (4 * f + m) 0) along last) last)
    (row_on (get_or sides_over (4 * f + m) 0) (along_over (get_or reversals (4 * f + m) 0) along last) last)

-- a square of another face, whose side o it is
abbrev IsAcross : ℕ → ℕ → ℕ → ℕ → ℕ → ℕ → ℕ → ℕ → ℕ → Type 0
IsAcross n m f i j g a b o = (g < 6) × (a < n) × (b < n) × (o < 4) × AreOneSpot (middle n m f i j) (middle n o g a b) × (f ≢ g)

over : {n m f i j g a b : ℕ} (o : ℕ) → IsAcross n m f i j g a b o → IsBeside n m f i j g a b
over o h = record { face = h.0; column = h.1; row = h.2; other = o; is_side = h.3; same = spot_is h.4; apart = λ e. h.5 e.0 }

abbrev IsMet : ℕ → ℕ → ℕ → ℕ → Type 0
IsMet along last f m =
    let o = get_or sides_over (4 * f + m) 0 in
    let t = along_over (get_or reversals (4 * f + m) 0) along last in
    IsAcross (last + 1) m f (column_on m along last) (row_on m along last) (get_or faces_over (4 * f + m) 0) (column_on o t last) (row_on o t last) o

-- the table gives squares with a side in common
pub over_edge_is : (along last : ℕ) → along ≤ last → (f : ℕ) → f < 6 → (m : ℕ) → m < 4 → IsOver along last f m
unfolding column_on row_on along_over middle spot mid_u mid_v
over_edge_is along last h f hf m hm =
    over (get_or sides_over (4 * f + m) 0)
    (four (λ m. IsMet along last f m) (six (λ f. Four (IsMet along last f)) (omega arith, omega arith, omega arith, omega arith, omega arith, omega arith) f hf) m hm)

-- a square of the same face, whose side o it is
turn : {n m f i j a b : ℕ} (o : ℕ)
    → (f < 6) × (a < n) × (b < n) × (o < 4) × (mid_u m i ≡ mid_u o a) × (mid_v m j ≡ mid_v o b) × ((i ≡ a) × (j ≡ b) → ⊥)
    → IsBeside n m f i j f a b
unfolding middle
turn {n} {f} o h = record { face = h.0; column = h.1; row = h.2; other = o; is_side = h.3; same = ap₂ (spot (2 * n) f) h.4 h.5; apart = λ e. h.6 (e.1, e.2) }

-- a square of the grid and the next over side m, on one face
abbrev pub IsNext : ℕ → ℕ → ℕ → ℕ → ℕ → ℕ → ℕ → Type 0
IsNext n m f i j a b = (m < 4) × (f < 6) × (i < n) × (j < n) × (a < n) × (b < n) × IsStep m i j a b

pub beside_step : {n m f i j a b : ℕ} → IsNext n m f i j a b → IsBeside n m f i j f a b
unfolding mid_u mid_v
beside_step {n} {m} {f} {i} {j} {a} {b} h =
    four (λ m. IsStep m i j a b → IsBeside n m f i j f a b) (
      λ s. turn 2 (omega arith),
      λ s. turn 3 (omega arith),
      λ s. turn 0 (omega arith),
      λ s. turn 1 (omega arith),
    ) m h.0 h.6

-- the same numbers under other names
pub beside_moved : {n n' m m' f f' i i' j j' g g' a a' b b' : ℕ} → n ≡ n' → m ≡ m' → f ≡ f' → i ≡ i' → j ≡ j' → g ≡ g' → a ≡ a' → b ≡ b'
    → IsBeside n m f i j g a b → IsBeside n' m' f' i' j' g' a' b'
beside_moved n m f i j g a b h = transport (λ k. IsBeside (n k) (m k) (f k) (i k) (j k) (g k) (a k) (b k)) h

-- what the code finds over an edge
pub along_reversed : (r along last : ℕ) → (r ≡ 0 → ⊥) → last - along ≡ along_over r along last
unfolding along_over
along_reversed zero along last h = absurd (h refl)
along_reversed (suc r) along last h = refl

pub along_same : (r along last : ℕ) → r ≡ 0 → along ≡ along_over r along last
unfolding along_over
along_same zero along last h = refl
along_same (suc r) along last h = absurd (omega arith)

pub over_edge_at : (along last f m place x y : ℕ) → along ≤ last → f < 6 → m < 4
    → place ≡ along_over (get_or reversals (4 * f + m) 0) along last → x ≡ column_on (get_or sides_over (4 * f + m) 0) place last
    → y ≡ row_on (get_or sides_over (4 * f + m) 0) place last
    → IsBeside (last + 1) m f (column_on m along last) (row_on m along last) (get_or faces_over (4 * f + m) 0) x y
over_edge_at along last f m place x y h hf hm ep ex ey =
    let side = get_or sides_over (4 * f + m) 0 in
    beside_moved refl refl refl refl refl refl (ap (λ t. column_on side t last) (sym ep) ∙ sym ex) (ap (λ t. row_on side t last) (sym ep) ∙ sym ey) (over_edge_is along last h f hf m hm)
