-- Over two sides of a square lie two squares.
use Rattle.std.proofs.Common.{◌≡◌, ◌≢◌, ℕ, ◌*◌, ◌%◌, ◌^◌, ◌<◌, ◌≤◌, ◌⊎◌, inl, inr, List, length, get_or, AllPairs, sym, ◌∙◌, ap, refl, arith, subst}
use Rattle.std.proofs.lemmas.Bool.{cases_eq}
use Rattle.std.proofs.lemmas.List.{get_or_default}
use Rattle.s2id_core.specs.declared.cell_id.CellId.{CellId}
use Rattle.s2id_core.specs.Path.{Path, IsPath}
use Rattle.s2id_core.specs.CellId.{path_of}
use Rattle.s2id_cube.specs.Square.{square_of}
use Rattle.s2id_cube.specs.Edge.{SharesSide}
use Rattle.s2id_cube.specs.Grid.{Spot, spot, mid_u, mid_v, middle}
use Rattle.s2id_cube.proofs.Cases.{three, four, six, four_by_four}
use Rattle.s2id_cube.proofs.Grid.{coordinate, AtSide, IsStep, sided, beside_on_face, on_face_of, axes_apart, at_height, even_height}
use Rattle.s2id_cube.proofs.Shared.{one_path, at_side_first, at_side_second}

-- a step tells its side
step_side : (i j a b m : ℕ) → m < 4 → (n : ℕ) → n < 4 → IsStep m i j a b → IsStep n i j a b → m ≡ n
step_side i j a b m hm n hn h =
    four (λ m. IsStep m i j a b → IsStep n i j a b → m ≡ n) (
      λ h. let x = h.0 refl in four (λ n. IsStep n i j a b → 0 ≡ n) (omega arith, λ k. omega (arith, k.1 refl), λ k. omega (arith, k.2 refl), λ k. omega (arith, k.3 refl)) n hn,
      λ h. let x = h.1 refl in four (λ n. IsStep n i j a b → 1 ≡ n) (λ k. omega (arith, k.0 refl), omega arith, λ k. omega (arith, k.2 refl), λ k. omega (arith, k.3 refl)) n hn,
      λ h. let x = h.2 refl in four (λ n. IsStep n i j a b → 2 ≡ n) (λ k. omega (arith, k.0 refl), λ k. omega (arith, k.1 refl), omega arith, λ k. omega (arith, k.3 refl)) n hn,
      λ h. let x = h.3 refl in four (λ n. IsStep n i j a b → 3 ≡ n) (λ k. omega (arith, k.0 refl), λ k. omega (arith, k.1 refl), λ k. omega (arith, k.2 refl), omega arith) n hn,
    )
    m hm h

-- an even column or row of a side's middle tells the side
side_by_column : (i m n : ℕ) → m < 4 → n < 4 → mid_u m i ≡ mid_u n i → mid_u m i % 2 ≡ 0 → m ≡ n
unfolding mid_u
side_by_column i = four_by_four (λ m n. mid_u m i ≡ mid_u n i → mid_u m i % 2 ≡ 0 → m ≡ n) (omega arith)

side_by_row : (j m n : ℕ) → m < 4 → n < 4 → mid_v m j ≡ mid_v n j → mid_v m j % 2 ≡ 0 → m ≡ n
unfolding mid_v
side_by_row j = four_by_four (λ m n. mid_v m j ≡ mid_v n j → mid_v m j % 2 ≡ 0 → m ≡ n) (omega arith)

-- a coordinate off the face's own axis tells the column or the row
abbrev Tells : ℕ → ℕ → ℕ → ℕ → ℕ → ℕ → ℕ → Type 0
Tells n u v x y f a = a ≢ f % 3 → coordinate a (spot (2 * n) f u v) ≡ coordinate a (spot (2 * n) f x y) → coordinate a (spot (2 * n) f u v) % 2 ≡ 0 → ((u ≡ x) × (u % 2 ≡ 0)) ⊎ ((v ≡ y) × (v % 2 ≡ 0))

tells : (n u v x y : ℕ) → u ≤ 2 * n → v ≤ 2 * n → x ≤ 2 * n → y ≤ 2 * n → (f : ℕ) → f < 6 → (a : ℕ) → a < 3 → Tells n u v x y f a
unfolding spot coordinate
tells n u v x y hu hv hx hy f hf a ha =
    six (λ f. (a : ℕ) → a < 3 → Tells n u v x y f a) (
      three (Tells n u v x y 0) (λ o e h. absurd (o refl), λ o e h. inl (omega arith), λ o e h. inr (omega arith)),
      three (Tells n u v x y 1) (λ o e h. inl (omega arith), λ o e h. absurd (o refl), λ o e h. inr (omega arith)),
      three (Tells n u v x y 2) (λ o e h. inl (omega arith), λ o e h. inr (omega arith), λ o e h. absurd (o refl)),
      three (Tells n u v x y 3) (λ o e h. absurd (o refl), λ o e h. inr (omega arith), λ o e h. inl (omega arith)),
      three (Tells n u v x y 4) (λ o e h. inr (omega arith), λ o e h. absurd (o refl), λ o e h. inl (omega arith)),
      three (Tells n u v x y 5) (λ o e h. inr (omega arith), λ o e h. inl (omega arith), λ o e h. absurd (o refl)),
    )
    f hf a ha

-- two squares have at most one side in common
pub one_common_side : (n m k f i j o r g a b : ℕ) (p q : Spot) → AtSide n m f i j p → AtSide n o g a b p → AtSide n k f i j q
    → AtSide n r g a b q → ((f ≡ g) × (i ≡ a) × (j ≡ b) → ⊥) → m ≡ k
unfolding middle
one_common_side n m k f i j o r g a b p q sp tp sq tq apart =
    elim (cases_eq g f) [
      | inl e ↦
          let off : (i ≡ a) × (j ≡ b) → ⊥ = λ (x, y). apart (sym e, x, y) in
          step_side i j a b m sp.is_side k sq.is_side (beside_on_face n m f i j o a b p sp (on_face_of n o f g a b p e tp) off) (beside_on_face n k f i j r a b q sq (on_face_of n r f g a b q e tq) off)
      | inr ne ↦
          let hm = sided n i j sp.column sp.row m sp.is_side in
          let hk = sided n i j sp.column sp.row k sq.is_side in
          let axis = axes_apart n m f i j o g a b p sp tp (λ e. ne (sym e)) in
          let at_p = ap (coordinate (g % 3)) sp.at ∙ at_height n o g a b p tp in
          let at_q = ap (coordinate (g % 3)) sq.at ∙ at_height n r g a b q tq in
          let even = ap (λ x. x % 2) at_p ∙ even_height n g tp.face in
          elim (tells n (mid_u m i) (mid_v m j) (mid_u k i) (mid_v k j) hm.u_small hm.v_small hk.u_small hk.v_small f sp.face (g % 3) (omega arith) (λ e. axis (sym e)) (at_p ∙ sym at_q) even) [
            | inl t ↦ side_by_column i m k sp.is_side sq.is_side t.0 t.1
            | inr t ↦ side_by_row j m k sp.is_side sq.is_side t.0 t.1
          ]
    ]

-- two cells share at most one side
pub one_shared_side : (m n : ℕ) (p q : Path) → m < 4 → n < 4 → IsPath p → IsPath q → SharesSide m p q → SharesSide n p q → m ≡ n
one_shared_side m n p q hm hn hp hq h k =
    let s = square_of p in
    let t = square_of q in
    one_common_side (2 ^ length p.digits) m n s.face s.i s.j h.other k.other t.face t.i t.j (middle (2 ^ length p.digits) m s.face s.i s.j) (middle (2 ^ length p.digits) n s.face s.i s.j) (at_side_first m p hm hp) (at_side_second m p q hm hp hq h) (at_side_first n p hn hp) (at_side_second n p q hn hp hq k) (λ (x, y, z). h.apart (one_path p q hp hq h.one_level x y z))

-- the cells over the four sides are four
pub all_distinct : (cell : CellId) (cs : List CellId) → length cs ≡ 4 → ((c : CellId) → IsPath (path_of c))
    → ((m : ℕ) → m < 4 → SharesSide m (path_of cell) (path_of (get_or cs m cell))) → AllPairs (λ x y. x ≢ y) cs
all_distinct cell cs long paths sides i j d lt within e =
    let at_i = get_or_default cs i d cell (omega arith) in
    let at_j = get_or_default cs j d cell within in
    let same : get_or cs i cell ≡ get_or cs j cell = sym at_i ∙ e ∙ at_j in
    let first = sides i (omega arith) in
    let second = subst (λ (x : CellId). SharesSide j (path_of cell) (path_of x)) (sym same) (sides j (omega arith)) in
    let one = one_shared_side i j (path_of cell) (path_of (get_or cs i cell)) (omega arith) (omega arith) (paths cell) (paths (get_or cs i cell)) first second in
    absurd (omega arith)
