-- Points of the cube in whole numbers, counted from its lowest corner in squares of one level: n of them to a side.
use Rattle.std.proofs.Common.{◌≡◌, ◌≢◌, ℕ, zero, suc, ◌+◌, ◌*◌, ◌%◌, ◌<◌, ◌≤◌, ◌⊎◌, inl, inr, sym, ◌∙◌, ap, refl, arith, subst}
use Rattle.std.proofs.lemmas.Bool.{cases_eq}
use Rattle.s2id_cube.specs.Grid.{Spot, spot, mid_u, mid_v, middle}
use Rattle.s2id_cube.proofs.Cases.{three, four, six}

-- two points by their coordinates
abbrev pub AreOneSpot : Spot → Spot → Type 0
AreOneSpot s t = (s.x ≡ t.x) × (s.y ≡ t.y) × (s.z ≡ t.z)

pub spot_is : {s t : Spot} → AreOneSpot s t → s ≡ t
spot_is h = λ k. record { x = h.0 k; y = h.1 k; z = h.2 k }

unfoldable pub coordinate : ℕ → Spot → ℕ
coordinate zero s = s.x
coordinate (suc zero) s = s.y
coordinate (suc (suc a)) s = s.z

-- the coordinate of a face on its axis, which is face % 3
unfoldable pub height : ℕ → ℕ → ℕ
height n zero = n
height n (suc zero) = n
height n (suc (suc zero)) = n
height n (suc (suc (suc f))) = 0

-- the axes along which a face's columns and rows are counted
unfoldable pub u_axis : ℕ → ℕ
u_axis zero = 1
u_axis (suc zero) = 0
u_axis (suc (suc zero)) = 0
u_axis (suc (suc (suc zero))) = 2
u_axis (suc (suc (suc (suc zero)))) = 2
u_axis (suc (suc (suc (suc (suc f))))) = 1

unfoldable pub v_axis : ℕ → ℕ
v_axis zero = 2
v_axis (suc zero) = 2
v_axis (suc (suc zero)) = 1
v_axis (suc (suc (suc zero))) = 1
v_axis (suc (suc (suc (suc zero)))) = 0
v_axis (suc (suc (suc (suc (suc f))))) = 0

pub on_face : (n u v f : ℕ) → f < 6 → coordinate (f % 3) (spot n f u v) ≡ height n f
unfolding spot coordinate height
on_face n u v f h = six (λ f. coordinate (f % 3) (spot n f u v) ≡ height n f) (refl, refl, refl, refl, refl, refl) f h

-- strictly within a face the other two coordinates lie strictly within the cube
pub strictly : (n u v : ℕ) → 0 < u → u < n → 0 < v → v < n → (f : ℕ) → f < 6 → (a : ℕ) → a < 3 → a ≢ f % 3
    → (0 < coordinate a (spot n f u v)) × (coordinate a (spot n f u v) < n)
unfolding spot coordinate
strictly n u v hu hu' hv hv' f hf a ha =
    six (λ f. (a : ℕ) → a < 3 → a ≢ f % 3 → (0 < coordinate a (spot n f u v)) × (coordinate a (spot n f u v) < n)) (
      three (λ a. a ≢ 0 → (0 < coordinate a (spot n 0 u v)) × (coordinate a (spot n 0 u v) < n)) (omega arith),
      three (λ a. a ≢ 1 → (0 < coordinate a (spot n 1 u v)) × (coordinate a (spot n 1 u v) < n)) (omega arith),
      three (λ a. a ≢ 2 → (0 < coordinate a (spot n 2 u v)) × (coordinate a (spot n 2 u v) < n)) (omega arith),
      three (λ a. a ≢ 0 → (0 < coordinate a (spot n 3 u v)) × (coordinate a (spot n 3 u v) < n)) (omega arith),
      three (λ a. a ≢ 1 → (0 < coordinate a (spot n 4 u v)) × (coordinate a (spot n 4 u v) < n)) (omega arith),
      three (λ a. a ≢ 2 → (0 < coordinate a (spot n 5 u v)) × (coordinate a (spot n 5 u v) < n)) (omega arith),
    )
    f hf a ha

-- the other two coordinates are odd if the column or the row is
pub record Parities (n f u v : ℕ) : Type 0 where
  pub u_below : u_axis f < 3
  pub v_below : v_axis f < 3
  pub u_off : u_axis f ≢ f % 3
  pub v_off : v_axis f ≢ f % 3
  pub off : u_axis f ≢ v_axis f
  pub along_u : coordinate (u_axis f) (spot (2 * n) f u v) % 2 ≡ u % 2
  pub along_v : coordinate (v_axis f) (spot (2 * n) f u v) % 2 ≡ v % 2

pub parities : (n u v : ℕ) → u ≤ 2 * n → v ≤ 2 * n → (f : ℕ) → f < 6 → Parities n f u v
unfolding spot coordinate u_axis v_axis
parities n u v hu hv f hf =
    six (λ f. Parities n f u v) (omega arith) f hf

-- on one face the point tells the column and the row
pub one_spot : (n u v a b : ℕ) → u ≤ n → v ≤ n → a ≤ n → b ≤ n → (f : ℕ) → f < 6 → spot n f u v ≡ spot n f a b → (u ≡ a) × (v ≡ b)
unfolding spot
one_spot n u v a b hu hv ha hb f hf e =
    six (λ f. AreOneSpot (spot n f u v) (spot n f a b) → (u ≡ a) × (v ≡ b)) (omega arith) f hf
    (ap (λ (s : Spot). s.x) e, ap (λ (s : Spot). s.y) e, ap (λ (s : Spot). s.z) e)

-- ---- sides by their middles, in half squares

-- the square beside (i, j) over side m, on the same face
abbrev pub IsStep : ℕ → ℕ → ℕ → ℕ → ℕ → Type 0
IsStep m i j a b = (m ≡ 0 → (a ≡ i) × (b + 1 ≡ j)) × (m ≡ 1 → (a ≡ i + 1) × (b ≡ j)) × (m ≡ 2 → (a ≡ i) × (b ≡ j + 1)) × (m ≡ 3 → (a + 1 ≡ i) × (b ≡ j))

-- side m of (i, j) is one of the face's own
abbrev pub IsInner : ℕ → ℕ → ℕ → ℕ → Type 0
IsInner n m i j = (m ≡ 0 → 0 < j) × (m ≡ 1 → i + 1 < n) × (m ≡ 2 → j + 1 < n) × (m ≡ 3 → 0 < i)

pub record Sided (n m i j : ℕ) : Type 0 where
  pub u_small : mid_u m i ≤ 2 * n
  pub v_small : mid_v m j ≤ 2 * n
  pub one_odd : mid_u m i % 2 + mid_v m j % 2 ≡ 1

pub sided : (n i j : ℕ) → i < n → j < n → (m : ℕ) → m < 4 → Sided n m i j
unfolding mid_u mid_v
sided n i j hi hj m hm =
    four (λ m. Sided n m i j) (omega arith) m hm

-- an inner side lies strictly within its face
pub inner_strictly : (n i j : ℕ) → i < n → j < n → (m : ℕ) → m < 4 → IsInner n m i j
    → (0 < mid_u m i) × (mid_u m i < 2 * n) × (0 < mid_v m j) × (mid_v m j < 2 * n)
unfolding mid_u mid_v
inner_strictly n i j hi hj m hm =
    four (λ m. IsInner n m i j → (0 < mid_u m i) × (mid_u m i < 2 * n) × (0 < mid_v m j) × (mid_v m j < 2 * n)) (omega arith) m hm

-- two squares of one face with a side in common are one, or the second is beside the first
pub same_or_step : (i j a b : ℕ) → ((i ≡ a) × (j ≡ b) → ⊥) → (m : ℕ) → m < 4 → (o : ℕ) → o < 4 → mid_u m i ≡ mid_u o a
    → mid_v m j ≡ mid_v o b → IsStep m i j a b
unfolding mid_u mid_v
same_or_step i j a b apart m hm o ho =
    four (λ m. (o : ℕ) → o < 4 → mid_u m i ≡ mid_u o a → mid_v m j ≡ mid_v o b → IsStep m i j a b) (
      four (λ o. mid_u 0 i ≡ mid_u o a → mid_v 0 j ≡ mid_v o b → IsStep 0 i j a b) (λ e f. absurd (apart (omega arith)), omega arith, omega arith, omega arith),
      four (λ o. mid_u 1 i ≡ mid_u o a → mid_v 1 j ≡ mid_v o b → IsStep 1 i j a b) (omega arith, λ e f. absurd (apart (omega arith)), omega arith, omega arith),
      four (λ o. mid_u 2 i ≡ mid_u o a → mid_v 2 j ≡ mid_v o b → IsStep 2 i j a b) (omega arith, omega arith, λ e f. absurd (apart (omega arith)), omega arith),
      four (λ o. mid_u 3 i ≡ mid_u o a → mid_v 3 j ≡ mid_v o b → IsStep 3 i j a b) (omega arith, omega arith, omega arith, λ e f. absurd (apart (omega arith))),
    )
    m hm o ho

-- ---- a side belongs to two squares

-- a square with a side whose middle is p
pub record AtSide (n m f i j : ℕ) (p : Spot) : Type 0 where
  pub is_side : m < 4
  pub face : f < 6
  pub column : i < n
  pub row : j < n
  pub at : middle n m f i j ≡ p

height_is : (n f : ℕ) → f < 6 → ((f < 3) × (height n f ≡ n)) ⊎ ((3 ≤ f) × (height n f ≡ 0))
unfolding height
height_is n f h = six (λ f. ((f < 3) × (height n f ≡ n)) ⊎ ((3 ≤ f) × (height n f ≡ 0))) (inl (omega arith, refl), inl (omega arith, refl), inl (omega arith, refl), inr (omega arith, refl), inr (omega arith, refl), inr (omega arith, refl)) f h

one_face : (n f g : ℕ) → 0 < n → f < 6 → g < 6 → f % 3 ≡ g % 3 → height n f ≡ height n g → f ≡ g
one_face n f g pos hf hg axis same =
    elim (height_is n f hf) [
      | inl a ↦ elim (height_is n g hg) [ inl b ↦ low f g a.0 b.0 axis | inr b ↦ absurd (let x = a.1 in let y = b.1 in omega arith) ]
      | inr a ↦ elim (height_is n g hg) [ inl b ↦ absurd (let x = a.1 in let y = b.1 in omega arith) | inr b ↦ high f g hf hg a.0 b.0 axis ]
    ]
  where
    low : (f g : ℕ) → f < 3 → g < 3 → f % 3 ≡ g % 3 → f ≡ g
    low f g hf hg e = omega arith

    high : (f g : ℕ) → f < 6 → g < 6 → 3 ≤ f → 3 ≤ g → f % 3 ≡ g % 3 → f ≡ g
    high f g hf hg lf lg e = omega arith

pub at_height : (n m f i j : ℕ) (p : Spot) → AtSide n m f i j p → coordinate (f % 3) p ≡ height (2 * n) f
unfolding middle
at_height n m f i j p h = ap (coordinate (f % 3)) (sym h.at) ∙ on_face (2 * n) (mid_u m i) (mid_v m j) f h.face

pub even_height : (n f : ℕ) → f < 6 → height (2 * n) f % 2 ≡ 0
even_height n f h = elim (height_is (2 * n) f h) [ inl a ↦ let x = a.1 in omega arith | inr a ↦ let x = a.1 in omega arith ]

pub axes_apart : (n m f i j o g a b : ℕ) (p : Spot) → AtSide n m f i j p → AtSide n o g a b p → (f ≡ g → ⊥) → f % 3 ≢ g % 3
axes_apart n m f i j o g a b p h k apart axis =
    apart (one_face (2 * n) f g (let x = h.column in omega arith) h.face k.face axis (sym (at_height n m f i j p h) ∙ ap (λ x. coordinate x p) axis ∙ at_height n o g a b p k))

-- an inner side of one face is no other face's
inner_alone : (n m f i j o g a b : ℕ) (p : Spot) → AtSide n m f i j p → AtSide n o g a b p → (f ≡ g → ⊥) → IsInner n m i j → ⊥
unfolding middle
inner_alone n m f i j o g a b p h k apart inner =
    let s = inner_strictly n i j h.column h.row m h.is_side inner in
    let off = axes_apart n m f i j o g a b p h k apart in
    let at = strictly (2 * n) (mid_u m i) (mid_v m j) s.0 s.1 s.2 s.3 f h.face (g % 3) (omega arith) (λ e. off (sym e)) in
    let here = ap (coordinate (g % 3)) h.at ∙ at_height n o g a b p k in
    let low : 0 < height (2 * n) g = subst (λ x. 0 < x) here at.0 in
    let high : height (2 * n) g < 2 * n = subst (λ x. x < 2 * n) here at.1 in
    elim (height_is (2 * n) g k.face) [ inl x ↦ let e = x.1 in omega arith | inr x ↦ let e = x.1 in omega arith ]

-- the axis along which a side runs
record Along (p : Spot) : Type 0 where
  axis : ℕ
  below : axis < 3
  odd : coordinate axis p % 2 ≡ 1

along : (n m f i j : ℕ) (p : Spot) → AtSide n m f i j p → Along p
unfolding middle
along n m f i j p h =
    let s = sided n i j h.column h.row m h.is_side in
    let q = parities n (mid_u m i) (mid_v m j) s.u_small s.v_small f h.face in
    let odd = s.one_odd in
    elim (cases_eq (mid_u m i % 2) 1) [
      | inl e ↦ record { axis = u_axis f; below = q.u_below; odd = ap (λ x. coordinate (u_axis f) x % 2) (sym h.at) ∙ q.along_u ∙ e }
      | inr ne ↦ record { axis = v_axis f; below = q.v_below; odd = ap (λ x. coordinate (v_axis f) x % 2) (sym h.at) ∙ q.along_v ∙ rest (mid_u m i) (mid_v m j) odd ne }
    ]
  where
    rest : (u v : ℕ) → u % 2 + v % 2 ≡ 1 → (u % 2 ≡ 1 → ⊥) → v % 2 ≡ 1
    rest u v e ne = omega arith

not_along : (n m f i j : ℕ) (p : Spot) → AtSide n m f i j p → (t : ℕ) → coordinate t p % 2 ≡ 1 → t ≡ f % 3 → ⊥
not_along n m f i j p h t odd e =
    let even = ap (λ x. coordinate x p % 2) e ∙ ap (λ x. x % 2) (at_height n m f i j p h) ∙ even_height n f h.face in
    omega arith

four_axes : (t a b c : ℕ) → t < 3 → a < 3 → b < 3 → c < 3 → (t ≡ a → ⊥) → (t ≡ b → ⊥) → (t ≡ c → ⊥) → (a ≡ b → ⊥) → (a ≡ c → ⊥)
    → (b ≡ c → ⊥) → ⊥
four_axes t a b c ht ha hb hc ta tb tc ab ac bc = omega arith

one_step : (i j a b c d m : ℕ) → m < 4 → IsStep m i j a b → IsStep m i j c d → (a ≡ c) × (b ≡ d)
one_step i j a b c d m hm =
    four (λ m. IsStep m i j a b → IsStep m i j c d → (a ≡ c) × (b ≡ d)) (omega arith) m hm

step_inner : (n i j a b m : ℕ) → a < n → b < n → IsStep m i j a b → IsInner n m i j
step_inner n i j a b m ha hb h = omega arith

-- two squares of one face at one side
pub beside_on_face : (n m f i j o a b : ℕ) (p : Spot) → AtSide n m f i j p → AtSide n o f a b p → ((i ≡ a) × (j ≡ b) → ⊥) → IsStep m i j a b
unfolding middle
beside_on_face n m f i j o a b p h k apart =
    let s = sided n i j h.column h.row m h.is_side in
    let t = sided n a b k.column k.row o k.is_side in
    let e = one_spot (2 * n) (mid_u m i) (mid_v m j) (mid_u o a) (mid_v o b) s.u_small s.v_small t.u_small t.v_small f h.face (h.at ∙ sym k.at) in
    same_or_step i j a b apart m h.is_side o k.is_side e.0 e.1

pub on_face_of : (n o f g a b : ℕ) (p : Spot) → g ≡ f → AtSide n o g a b p → AtSide n o f a b p
on_face_of n o f g a b p e h = subst (λ x. AtSide n o x a b p) e h

-- beside a square over a side there is one square
pub one_beside : (n m f i j o g a b r h c d : ℕ) (p : Spot) → AtSide n m f i j p → AtSide n o g a b p → AtSide n r h c d p
    → ((f ≡ g) × (i ≡ a) × (j ≡ b) → ⊥) → ((f ≡ h) × (i ≡ c) × (j ≡ d) → ⊥) → (g ≡ h) × (a ≡ c) × (b ≡ d)
one_beside n m f i j o g a b r h c d p s t u st su =
    elim (cases_eq g f) [
      | inl gf ↦
          let t' = on_face_of n o f g a b p gf t in
          let step = beside_on_face n m f i j o a b p s t' (λ (x, y). st (sym gf, x, y)) in
          elim (cases_eq h f) [
            | inl hf ↦
                let u' = on_face_of n r f h c d p hf u in
                let step' = beside_on_face n m f i j r c d p s u' (λ (x, y). su (sym hf, x, y)) in
                let e = one_step i j a b c d m s.is_side step step' in
                (gf ∙ sym hf, e.0, e.1)
            | inr hf ↦ absurd (inner_alone n m f i j r h c d p s u (λ e. hf (sym e)) (step_inner n i j a b m t.column t.row step))
          ]
      | inr gf ↦ elim (cases_eq h f) [
        | inl hf ↦
            let u' = on_face_of n r f h c d p hf u in
            let step = beside_on_face n m f i j r c d p s u' (λ (x, y). su (sym hf, x, y)) in
            absurd (inner_alone n m f i j o g a b p s t (λ e. gf (sym e)) (step_inner n i j c d m u.column u.row step))
        | inr hf ↦ elim (cases_eq h g) [
          | inl hg ↦
              let u' = on_face_of n r g h c d p hg u in
              elim (cases_eq a c) [
                | inl ac ↦ elim (cases_eq b d) [
                  | inl bd ↦ (sym hg, ac, bd)
                  | inr bd ↦ absurd (inner_alone n o g a b m f i j p t s gf (step_inner n a b c d o u.column u.row (beside_on_face n o g a b r c d p t u' (λ (x, y). bd y))))
                ]
                | inr ac ↦ absurd (inner_alone n o g a b m f i j p t s gf (step_inner n a b c d o u.column u.row (beside_on_face n o g a b r c d p t u' (λ (x, y). ac x))))
              ]
          | inr hg ↦
              let w = along n m f i j p s in
              absurd (four_axes w.axis (f % 3) (g % 3) (h % 3) w.below (omega arith) (omega arith) (omega arith) (not_along n m f i j p s w.axis w.odd) (not_along n o g a b p t w.axis w.odd) (not_along n r h c d p u w.axis w.odd) (axes_apart n m f i j o g a b p s t (λ e. gf (sym e))) (axes_apart n m f i j r h c d p s u (λ e. hf (sym e))) (axes_apart n o g a b r h c d p t u (λ e. hg (sym e))))
        ]
      ]
    ]
