-- The squares round a block of finer squares, in plain numbers.
use Rattle.std.proofs.Common.{◌≡◌, ℕ, ◌+◌, ◌-◌, ◌<◌, ◌≤◌, inl, inr, sym, refl, arith, subst}
use Rattle.std.proofs.lemmas.Bool.{cases_lt}
use Rattle.s2id_cube.specs.Grid.{middle, IsBeside, column_on, row_on}
use Rattle.s2id_cube.proofs.Cases.{four}
use Rattle.s2id_cube.proofs.Grid.{AtSide, IsStep, beside_on_face, on_face_of, one_beside}
use Rattle.s2id_cube.proofs.Beside.{IsNext, beside_step}

at_first : (n m f i j : ℕ) → m < 4 → f < 6 → i < n → j < n → AtSide n m f i j (middle n m f i j)
at_first n m f i j hm hf hi hj = record { is_side = hm; face = hf; column = hi; row = hj; at = refl }

at_second : (n m f i j g a b : ℕ) → (h : IsBeside n m f i j g a b) → AtSide n h.other g a b (middle n m f i j)
at_second n m f i j g a b h = record { is_side = h.is_side; face = h.face; column = h.column; row = h.row; at = sym h.same }

-- the square beside another over a side is one
pub same_beside : (n m f i j g a b h c d : ℕ) → m < 4 → f < 6 → i < n → j < n → IsBeside n m f i j g a b → IsBeside n m f i j h c d
    → (g ≡ h) × (a ≡ c) × (b ≡ d)
same_beside n m f i j g a b h c d hm hf hi hj s t =
    one_beside n m f i j s.other g a b t.other h c d (middle n m f i j) (at_first n m f i j hm hf hi hj) (at_second n m f i j g a b s) (at_second n m f i j h c d t) s.apart t.apart

-- column i and row j lie in the w columns from u and the w rows from v
pub record InBlock (u v w i j : ℕ) : Type 0 where
  pub left : u ≤ i
  pub right : i < u + w
  pub down : v ≤ j
  pub up : j < v + w

-- the square at a place along a side of a block
pub along_in_block : (u v w t m : ℕ) → t < w → m < 4 → InBlock u v w (u + column_on m t (w - 1)) (v + row_on m t (w - 1))
unfolding column_on row_on
along_in_block u v w t m ht hm =
    four (λ m. InBlock u v w (u + column_on m t (w - 1)) (v + row_on m t (w - 1))) (omega arith) m hm

-- a step over the side leaves the block
step_leaves : (u v w t a b m : ℕ) → t < w → m < 4 → IsStep m (u + column_on m t (w - 1)) (v + row_on m t (w - 1)) a b → InBlock u v w a b
    → ⊥
unfolding column_on row_on
step_leaves u v w t a b m ht hm =
    four (λ m. IsStep m (u + column_on m t (w - 1)) (v + row_on m t (w - 1)) a b → InBlock u v w a b → ⊥) (omega arith) m hm

pub over_is_outside : (n u v w m t f g a b : ℕ) → m < 4 → t < w → f < 6 → u + w ≤ n → v + w ≤ n
    → IsBeside n m f (u + column_on m t (w - 1)) (v + row_on m t (w - 1)) g a b → g ≡ f → InBlock u v w a b → ⊥
over_is_outside n u v w m t f g a b hm ht hf hu hv h e =
    let i = u + column_on m t (w - 1) in
    let j = v + row_on m t (w - 1) in
    let k = along_in_block u v w t m ht hm in
    let right = k.right in
    let up = k.up in
    let p = middle n m f i j in
    let s = at_first n m f i j hm hf (omega arith) (omega arith) in
    let r = on_face_of n h.other f g a b p e (at_second n m f i j g a b h) in
    step_leaves u v w t a b m ht hm (beside_on_face n m f i j h.other a b p s r (λ (x, y). h.apart (sym e, x, y)))

-- the place of a square along a side of a block
pub record LiesAlong (u v w m i j : ℕ) : Type 0 where
  pub along : ℕ
  pub is_along : along < w
  pub column : i ≡ u + column_on m along (w - 1)
  pub row : j ≡ v + row_on m along (w - 1)

-- what lies beside a square of the block over a side that is not the block's lies in the block
abbrev Goes : ℕ → ℕ → ℕ → ℕ → ℕ → ℕ → ℕ → ℕ → ℕ → ℕ → ℕ → Type 0
Goes n u v w f i j g a b m = IsBeside n m f i j g a b → LiesAlong u v w m i j

inner_step : (n u v w m f i j g a b c d : ℕ) → (g ≡ f → InBlock u v w a b → ⊥) → IsBeside n m f i j g a b → IsNext n m f i j c d
    → InBlock u v w c d → ⊥
inner_step n u v w m f i j g a b c d out h next inside =
    let e = same_beside n m f i j g a b f c d next.0 next.1 next.2 next.3 h (beside_step next) in
    out e.0 (subst (λ y. InBlock u v w a y) (sym e.2) (subst (λ x. InBlock u v w x d) (sym e.1) inside))

pub outside_is_over : (n u v w m f i j g a b : ℕ) → m < 4 → f < 6 → u + w ≤ n → v + w ≤ n → InBlock u v w i j
    → (g ≡ f → InBlock u v w a b → ⊥) → IsBeside n m f i j g a b → LiesAlong u v w m i j
unfolding column_on row_on
outside_is_over n u v w m f i j g a b hm hf hu hv k out =
    let left = k.left in
    let right = k.right in
    let down = k.down in
    let up = k.up in
    let hi : i < n = omega arith in
    let hj : j < n = omega arith in
    four (Goes n u v w f i j g a b) (
      λ h. elim (cases_lt v j) [
        | inl lt ↦ absurd (inner_step n u v w 0 f i j g a b i (j - 1) out h (omega arith) (omega arith))
        | inr ge ↦ record { along = i - u; is_along = omega arith; column = omega arith; row = omega arith }
      ],
      λ h. elim (cases_lt (i + 1) (u + w)) [
        | inl lt ↦ absurd (inner_step n u v w 1 f i j g a b (i + 1) j out h (omega arith) (omega arith))
        | inr ge ↦ record { along = j - v; is_along = omega arith; column = omega arith; row = omega arith }
      ],
      λ h. elim (cases_lt (j + 1) (v + w)) [
        | inl lt ↦ absurd (inner_step n u v w 2 f i j g a b i (j + 1) out h (omega arith) (omega arith))
        | inr ge ↦ record { along = i - u; is_along = omega arith; column = omega arith; row = omega arith }
      ],
      λ h. elim (cases_lt u i) [
        | inl lt ↦ absurd (inner_step n u v w 3 f i j g a b (i - 1) j out h (omega arith) (omega arith))
        | inr ge ↦ record { along = j - v; is_along = omega arith; column = omega arith; row = omega arith }
      ],
    )
    m hm
