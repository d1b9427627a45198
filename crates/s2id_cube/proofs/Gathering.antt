-- The cells over the sides of a square, gathered one by one.
use Rattle.std.proofs.Common.{◌≡◌, ◌↔◌, ℕ, ◌+◌, ◌^◌, ◌<◌, ◌⊎◌, inl, inr, List, [], ◌∷◌, ◌++◌, Contains, sym, ◌∙◌, ap, arith, subst}
use Rattle.std.proofs.lemmas.Bool.{cases_lt}
use Rattle.std.proofs.lemmas.List.Elements.{Contains-push, Contains-push_cases, Contains-append_left}
use Rattle.s2id_core.specs.declared.cell_id.CellId.{CellId}
use Rattle.s2id_core.specs.Path.{number_of}
use Rattle.s2id_core.specs.CellId.{path_of}
use Rattle.s2id_core.proofs.Numbers.{path_of_cell}
use Rattle.s2id_core.proofs.Cells.{same_cell}
use Rattle.s2id_cube.specs.declared.face_ij.FaceIj.{FaceIj}
use Rattle.s2id_cube.specs.Loops.{IsOverAt, IsOverFirst, IsOverSides}
use Rattle.s2id_cube.proofs.Round.{one_over}

-- two cells of one path are one cell
pub one_cell : (a b : CellId) → path_of a ≡ path_of b → a ≡ b
one_cell a b e = same_cell a b (sym a.valid.2 ∙ ap number_of e ∙ b.valid.2)

-- the list has gained the cells over the first places of a side
abbrev pub HasGained : List CellId → List CellId → FaceIj → ℕ → ℕ → ℕ → Type 0
HasGained old new s d m k = (x : CellId) → Contains new x ↔ (Contains old x ⊎ IsOverFirst s d m k (path_of x))

pub gained_none : (old : List CellId) (s : FaceIj) (d m : ℕ) → HasGained old old s d m 0
gained_none old s d m x = (inl, λ h. elim h [ inl c ↦ c | inr o ↦ let e = o.is_along in absurd (omega arith) ])

wider : (s : FaceIj) (d m k : ℕ) (x : CellId) → IsOverFirst s d m k (path_of x) → IsOverFirst s d m (k + 1) (path_of x)
wider s d m k x o = record { along = o.along; is_along = let e = o.is_along in omega arith; over = o.over }

pub gained_more : (old new : List CellId) (s : FaceIj) (d m k : ℕ) (y : CellId) → s.face < 6 → s.i < 2 ^ s.level → s.j < 2 ^ s.level → m < 4
    → k < 2 ^ d → HasGained old new s d m k → IsOverAt s d m k (path_of y) → HasGained old (new ++ y ∷ []) s d m (k + 1)
gained_more old new s d m k y hf hi hj hm hk h over x = (
  λ c. elim (Contains-push_cases new y x c) [
    | inl before ↦ elim ((h x).0 before) [ inl a ↦ inl a | inr b ↦ inr (wider s d m k x b) ]
    | inr e ↦ inr (record { along = k; is_along = omega arith; over = subst (λ z. IsOverAt s d m k (path_of z)) e over })
  ],
  λ c. elim c [
    | inl a ↦ Contains-append_left new (y ∷ []) x ((h x).1 (inl a))
    | inr b ↦ elim (cases_lt b.along k) [
      | inl lt ↦ Contains-append_left new (y ∷ []) x ((h x).1 (inr (record { along = b.along; is_along = lt; over = b.over })))
      | inr ge ↦
          let last : b.along ≡ k = let e = b.is_along in omega arith in
          let same = one_over s d m k (path_of y) (path_of x) hf hi hj hm hk (path_of_cell y.raw y.valid) (path_of_cell x.raw x.valid) over (subst (λ t. IsOverAt s d m t (path_of x)) last b.over) in
          subst (λ z. Contains (new ++ y ∷ []) z) (one_cell y x same) (Contains-push new y)
    ]
  ],
)

pub gained_push : (old cells new : List CellId) (s : FaceIj) (d m k : ℕ) (y : CellId) → s.face < 6 → s.i < 2 ^ s.level → s.j < 2 ^ s.level
    → m < 4 → k < 2 ^ d → HasGained old cells s d m k → IsOverAt s d m k (path_of y) → new ≡ cells ++ y ∷ []
    → HasGained old new s d m (k + 1)
gained_push old cells new s d m k y hf hi hj hm hk h over e =
    subst (λ xs. HasGained old xs s d m (k + 1)) (sym e) (gained_more old cells s d m k y hf hi hj hm hk h over)

-- the list has just the cells over the first sides
abbrev pub HasSides : List CellId → FaceIj → ℕ → ℕ → Type 0
HasSides cells s d k = (x : CellId) → Contains cells x ↔ IsOverSides s d k (path_of x)

sides_of_nil : (s : FaceIj) (d : ℕ) → HasSides [] s d 0
sides_of_nil s d x = (λ c. let e = c.1 in absurd (omega arith), λ o. let e = o.is_side in absurd (omega arith))

pub sides_none : (cells : List CellId) (s : FaceIj) (d : ℕ) → cells ≡ [] → HasSides cells s d 0
sides_none cells s d e = subst (λ xs. HasSides xs s d 0) (sym e) (sides_of_nil s d)

pub sides_more : (old new : List CellId) (s : FaceIj) (d k : ℕ) → HasSides old s d k → HasGained old new s d k (2 ^ d)
    → HasSides new s d (k + 1)
sides_more old new s d k h gained x = (
  λ c. elim ((gained x).0 c) [
    | inl a ↦ let o = (h x).0 a in record { side = o.side; is_side = let e = o.is_side in omega arith; over = o.over }
    | inr b ↦ record { side = k; is_side = omega arith; over = b }
  ],
  λ o. elim (cases_lt o.side k) [
    | inl lt ↦ (gained x).1 (inl ((h x).1 (record { side = o.side; is_side = lt; over = o.over })))
    | inr ge ↦ (gained x).1 (inr (subst (λ m. IsOverFirst s d m (2 ^ d) (path_of x)) (let e : o.side ≡ k = let f = o.is_side in omega arith in e) o.over))
  ],
)
