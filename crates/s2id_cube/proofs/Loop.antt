-- The curve is a closed loop: a cell and the next of its level lie side by side.
use Rattle.std.proofs.Common.{◌≡◌, ℕ, zero, suc, ◌+◌, ◌-◌, ◌*◌, ◌/◌, ◌%◌, ◌^◌, ◌<◌, length, inl, inr, sym, ◌∙◌, ap, ap₂, refl, arith, subst}
use Rattle.std.proofs.Math.Nat.{div-div-eq-div-mul}
use Rattle.std.proofs.lemmas.Bool.{cases_eq, cases_lt}
use Rattle.std.proofs.lemmas.Nat.{pow_pos, div-mul-add, mod-mul-add, mod_below, div-add-mod'}
use Rattle.s2id_core.specs.Path.{Path, IsPath, place_of}
use Rattle.s2id_core.proofs.Powers.{four_step, four_pos, two_step, lt_of_mul}
use Rattle.s2id_core.proofs.Numbers.{place_below}
use Rattle.s2id_cube.specs.declared.face_ij.FaceIj.{FaceIj}
use Rattle.s2id_cube.specs.Square.{quadrant, turned, quarter, whole_face, square_of}
use Rattle.s2id_cube.specs.Edge.{ShareEdge}
use Rattle.s2id_cube.specs.Grid.{IsBeside, column_on, row_on}
use Rattle.s2id_cube.proofs.Cases.{three, four, six, four_by_four}
use Rattle.s2id_cube.proofs.Grid.{IsStep}
use Rattle.s2id_cube.specs.Loops.{square_at}
use Rattle.s2id_cube.proofs.Squares.{square_of_place, IsSquare-square_at, face-square_at}
use Rattle.s2id_cube.proofs.Beside.{along_over, over_edge_is, beside_step, beside_moved}
use Rattle.s2id_cube.proofs.Shared.{shares_from_beside}

-- the side by which the curve goes on, from the quadrant where it ends to that where it begins again
unfoldable way : ℕ → ℕ → ℕ
way (suc (suc e)) zero = 1
way (suc (suc e)) (suc b) = 0
way (suc zero) zero = 2
way (suc zero) (suc b) = 3
way zero b = 0

abbrev Follows : FaceIj → FaceIj → Type 0
Follows s t = IsStep (way (quadrant s.orientation 3) (quadrant t.orientation 0)) s.i s.j t.i t.j

way_below : (o r : ℕ) → o < 4 → r < 4 → way (quadrant o 3) (quadrant r 0) < 4
unfolding way quadrant
way_below o r = four_by_four (λ o r. way (quadrant o 3) (quadrant r 0) < 4) (omega arith) o r

-- two children in a row of one cell
abbrev InRow : ℕ → ℕ → ℕ → ℕ → Type 0
InRow i j o d = IsStep (way (quadrant (turned o d) 3) (quadrant (turned o (suc d)) 0)) (2 * i + quadrant o d / 2) (2 * j + quadrant o d % 2) (2 * i + quadrant o (suc d) / 2) (2 * j + quadrant o (suc d) % 2)

in_row : (i j o d : ℕ) → o < 4 → d < 3 → InRow i j o d
unfolding way quadrant turned
in_row i j o d ho hd =
    four (λ o. (d : ℕ) → d < 3 → InRow i j o d) (
      three (InRow i j 0) (omega arith),
      three (InRow i j 1) (omega arith),
      three (InRow i j 2) (omega arith),
      three (InRow i j 3) (omega arith),
    )
    o ho d hd

-- the last child of a cell and the first of the next
abbrev Across : ℕ → ℕ → ℕ → ℕ → ℕ → ℕ → Type 0
Across i j a b o r = IsStep (way (quadrant o 3) (quadrant r 0)) i j a b → IsStep (way (quadrant (turned o 3) 3) (quadrant (turned r 0) 0)) (2 * i + quadrant o 3 / 2) (2 * j + quadrant o 3 % 2) (2 * a + quadrant r 0 / 2) (2 * b + quadrant r 0 % 2)

across : (i j a b o r : ℕ) → o < 4 → r < 4 → Across i j a b o r
unfolding way quadrant turned
across i j a b o r ho hr =
    four (λ o. (r : ℕ) → r < 4 → Across i j a b o r) (
      four (Across i j a b 0) (omega arith),
      four (Across i j a b 1) (omega arith),
      four (Across i j a b 2) (omega arith),
      four (Across i j a b 3) (omega arith),
    )
    o ho r hr

-- ---- along one face

same_face_above : (q k : ℕ) → q / 4 ^ suc k ≡ (q + 1) / 4 ^ suc k → (q + 1) / 4 ≡ q / 4 + 1 → q / 4 / 4 ^ k ≡ (q / 4 + 1) / 4 ^ k
same_face_above q k e up =
    let step = four_step k in
    div-div-eq-div-mul q 4 (4 ^ k) ∙ ap (λ x. q / x) (sym step) ∙ e ∙ ap (λ x. (q + 1) / x) step ∙ sym (div-div-eq-div-mul (q + 1) 4 (4 ^ k)) ∙ ap (λ x. x / 4 ^ k) up

along_face : (k q : ℕ) → q + 1 < 6 * 4 ^ k → q / 4 ^ k ≡ (q + 1) / 4 ^ k → Follows (square_at k q) (square_at k (q + 1))
unfolding square_at quarter
along_face zero q h e = absurd (omega arith)
along_face (suc k) q h e =
    let step = four_step k in
    elim (cases_lt (q % 4) 3) [
      | inl d ↦
          let s = square_at k (q / 4) in
          let is = IsSquare-square_at k (q / 4) (omega arith) in
          let up : (q + 1) / 4 ≡ q / 4 = omega arith in
          let next : (q + 1) % 4 ≡ suc (q % 4) = omega arith in
          let same : quarter ((q + 1) % 4) (square_at k ((q + 1) / 4)) ≡ quarter (suc (q % 4)) s = ap₂ (λ x y. quarter x (square_at k y)) next up in
          subst (λ t. Follows (quarter (q % 4) s) t) (sym same) (in_row s.i s.j s.orientation (q % 4) is.orientation d)
      | inr d ↦
          let s = square_at k (q / 4) in
          let t = square_at k (q / 4 + 1) in
          let is = IsSquare-square_at k (q / 4) (omega arith) in
          let it = IsSquare-square_at k (q / 4 + 1) (omega arith) in
          let up : (q + 1) / 4 ≡ q / 4 + 1 = omega arith in
          let last : q % 4 ≡ 3 = omega arith in
          let next : (q + 1) % 4 ≡ 0 = omega arith in
          let here : quarter (q % 4) s ≡ quarter 3 s = ap (λ x. quarter x s) last in
          let there : quarter ((q + 1) % 4) (square_at k ((q + 1) / 4)) ≡ quarter 0 t = ap₂ (λ x y. quarter x (square_at k y)) next up in
          let before = along_face k (q / 4) (omega arith) (same_face_above q k e up) in
          subst (λ x. Follows x (quarter ((q + 1) % 4) (square_at k ((q + 1) / 4)))) (sym here) (subst (λ x. Follows (quarter 3 s) x) (sym there) (across s.i s.j t.i t.j s.orientation t.orientation is.orientation it.orientation before))
    ]

-- ---- from face to face

record IsFirst (s : FaceIj) : Type 0 where
  i : s.i ≡ 0
  j : s.j ≡ 0
  turn : s.orientation < 2

first_corner : (o : ℕ) → o < 2 → (quadrant o 0 ≡ 0) × (turned o 0 < 2)
unfolding quadrant turned
first_corner zero h = (refl, omega arith)
first_corner (suc zero) h = (refl, omega arith)
first_corner (suc (suc o)) h = absurd (omega arith)

first_by : (s : FaceIj) (o : ℕ) → s.orientation ≡ o → o < 2 → IsFirst s → IsFirst (quarter 0 s)
unfolding quarter
first_by s o e ho h =
    let c = first_corner s.orientation h.turn in
    let q = c.0 in
    let i = h.i in
    let j = h.j in
    record { i = omega arith; j = omega arith; turn = c.1 }

first_quarter : (s : FaceIj) → IsFirst s → IsFirst (quarter 0 s)
unfolding quarter quadrant turned
first_quarter s h = elim (cases_eq s.orientation 0) [ inl e ↦ first_by s 0 e (omega arith) h | inr ne ↦ first_by s 1 (let x = h.turn in omega arith) (omega arith) h ]

first_of_face : (k f : ℕ) → IsFirst (square_at k (f * 4 ^ k))
unfolding square_at whole_face
first_of_face zero f = record { i = refl; j = refl; turn = omega arith }
first_of_face (suc k) f =
    let step = four_step k in
    let e : f * 4 ^ suc k ≡ f * 4 ^ k * 4 = ap (λ x. f * x) step ∙ turn_four f (4 ^ k) in
    let rest : f * 4 ^ suc k % 4 ≡ 0 = omega arith in
    let up : f * 4 ^ suc k / 4 ≡ f * 4 ^ k = omega arith in
    subst IsFirst (sym (ap₂ (λ x y. quarter x (square_at k y)) rest up)) (first_quarter (square_at k (f * 4 ^ k)) (first_of_face k f))
  where
    turn_four : (f b : ℕ) → f * (4 * b) ≡ f * b * 4
    turn_four f b = omega arith

record IsLast (n e : ℕ) (s : FaceIj) : Type 0 where
  ends : quadrant s.orientation 3 ≡ e
  small : s.orientation < 4
  i : (e ≡ 2 → s.i + 1 ≡ n) × (e ≡ 1 → s.i ≡ 0)
  j : (e ≡ 2 → s.j ≡ 0) × (e ≡ 1 → s.j + 1 ≡ n)

ends_again : (o : ℕ) → o < 4 → quadrant (turned o 3) 3 ≡ quadrant o 3
unfolding quadrant turned
ends_again o h = four (λ o. quadrant (turned o 3) 3 ≡ quadrant o 3) (refl, refl, refl, refl) o h

turned_small : (o : ℕ) → o < 4 → turned o 3 < 4
unfolding turned
turned_small o h = four (λ o. turned o 3 < 4) (omega arith) o h

last_quarter : (k e : ℕ) (s : FaceIj) → (e < 3) → 0 < e → IsLast (2 ^ k) e s → IsLast (2 ^ suc k) e (quarter 3 s)
unfolding quarter
last_quarter k e s he pos h =
    let step = two_step k in
    let ends = h.ends in
    let i = h.i in
    let j = h.j in
    record {
      ends = ends_again s.orientation h.small ∙ h.ends;
      small = turned_small s.orientation h.small;
      i = omega arith;
      j = omega arith;
    }

end_quadrant : (o : ℕ) → o < 2 → quadrant o 3 ≡ 2 - o
unfolding quadrant
end_quadrant zero h = refl
end_quadrant (suc zero) h = refl
end_quadrant (suc (suc o)) h = absurd (omega arith)

whole_ends : (f : ℕ) → IsLast (2 ^ 0) (2 - f % 2) (whole_face f)
unfolding whole_face
whole_ends f = record { ends = end_quadrant (f % 2) (omega arith); small = omega arith; i = omega arith; j = omega arith }

last_of_face : (k f q : ℕ) → q + 1 ≡ (f + 1) * 4 ^ k → IsLast (2 ^ k) (2 - f % 2) (square_at k q)
unfolding square_at
last_of_face zero f q e = subst (λ x. IsLast (2 ^ 0) (2 - f % 2) (whole_face x)) (let x : f ≡ q = omega arith in x) (whole_ends f)
last_of_face (suc k) f q e =
    let step = four_step k in
    let wide : q + 1 ≡ (f + 1) * 4 ^ k * 4 = e ∙ ap (λ x. (f + 1) * x) step ∙ turn_four (f + 1) (4 ^ k) in
    let pos = positive f (4 ^ k) (four_pos k) in
    let rest : q % 4 ≡ 3 = omega arith in
    let up : q / 4 + 1 ≡ (f + 1) * 4 ^ k = omega arith in
    subst (λ x. IsLast (2 ^ suc k) (2 - f % 2) (quarter x (square_at k (q / 4)))) (sym rest) (last_quarter k (2 - f % 2) (square_at k (q / 4)) (omega arith) (omega arith) (last_of_face k f (q / 4) up))
  where
    turn_four : (f b : ℕ) → f * (4 * b) ≡ f * b * 4
    turn_four f b = omega arith

    positive : (f b : ℕ) → 0 < b → 0 < (f + 1) * b
    positive f b h = omega arith

-- the face after a face along the curve, and the side by which it is reached
crossing : (last f : ℕ) → f < 6
    → (f % 2 ≡ 0 → IsBeside (last + 1) 1 f last 0 ((f + 1) % 6) 0 0) × (f % 2 ≡ 1 → IsBeside (last + 1) 2 f 0 last ((f + 1) % 6) 0 0)
unfolding column_on row_on along_over
crossing last f h =
    six (λ f. (f % 2 ≡ 0 → IsBeside (last + 1) 1 f last 0 ((f + 1) % 6) 0 0) × (f % 2 ≡ 1 → IsBeside (last + 1) 2 f 0 last ((f + 1) % 6) 0 0)) (
      (λ _. over_edge_is 0 last (omega arith) 0 (omega arith) 1 (omega arith), λ e. absurd (omega arith)),
      (λ e. absurd (omega arith), λ _. over_edge_is 0 last (omega arith) 1 (omega arith) 2 (omega arith)),
      (λ _. over_edge_is 0 last (omega arith) 2 (omega arith) 1 (omega arith), λ e. absurd (omega arith)),
      (λ e. absurd (omega arith), λ _. over_edge_is 0 last (omega arith) 3 (omega arith) 2 (omega arith)),
      (λ _. over_edge_is 0 last (omega arith) 4 (omega arith) 1 (omega arith), λ e. absurd (omega arith)),
      (λ e. absurd (omega arith), λ _. over_edge_is 0 last (omega arith) 5 (omega arith) 2 (omega arith)),
    )
    f h

-- a square beside another over some side
record HasSide (n : ℕ) (s t : FaceIj) : Type 0 where
  side : ℕ
  is_side : side < 4
  beside : IsBeside n side s.face s.i s.j t.face t.i t.j

from_face_to_face : (k f q r : ℕ) → f < 6 → q + 1 ≡ (f + 1) * 4 ^ k → r ≡ (f + 1) % 6 * 4 ^ k
    → HasSide (2 ^ k) (square_at k q) (square_at k r)
from_face_to_face k f q r hf eq er =
    let s = square_at k q in
    let t = square_at k r in
    let last = 2 ^ k - 1 in
    let some = pow_pos k in
    let b = 4 ^ k in
    let pos = four_pos k in
    let begin : IsFirst t = subst (λ x. IsFirst (square_at k x)) (sym er) (first_of_face k ((f + 1) % 6)) in
    let done : IsLast (2 ^ k) (2 - f % 2) s = last_of_face k f q eq in
    let face_s : f ≡ s.face = sym (face-square_at k q ∙ ap (λ x. x / b) (within f q b pos eq) ∙ div-mul-add f b (b - 1) (omega arith)) in
    let face_t : (f + 1) % 6 ≡ t.face = sym (face-square_at k r ∙ ap (λ x. x / b) (er ∙ (let e : (f + 1) % 6 * 4 ^ k ≡ (f + 1) % 6 * 4 ^ k + 0 = omega arith in e)) ∙ div-mul-add ((f + 1) % 6) b 0 pos) in
    let whole : last + 1 ≡ 2 ^ k = omega arith in
    elim (cases_eq (f % 2) 0) [
      | inl even ↦
          let two : 2 - f % 2 ≡ 2 = omega arith in
          let i = done.i.0 two in
          let j = done.j.0 two in
          record { side = 1; is_side = omega arith; beside = beside_moved whole refl face_s (omega arith) (sym j) face_t (sym begin.i) (sym begin.j) ((crossing last f hf).0 even) }
      | inr odd ↦
          let one : 2 - f % 2 ≡ 1 = omega arith in
          let i = done.i.1 one in
          let j = done.j.1 one in
          record { side = 2; is_side = omega arith; beside = beside_moved whole refl face_s (sym i) (omega arith) face_t (sym begin.i) (sym begin.j) ((crossing last f hf).1 (omega arith)) }
    ]
  where
    within : (f q b : ℕ) → 0 < b → q + 1 ≡ (f + 1) * b → q ≡ f * b + (b - 1)
    within f q b h e = omega arith

on_one_face : (k q : ℕ) → q + 1 < 6 * 4 ^ k → q / 4 ^ k ≡ (q + 1) / 4 ^ k → HasSide (2 ^ k) (square_at k q) (square_at k (q + 1))
on_one_face k q h e =
    let s = square_at k q in
    let t = square_at k (q + 1) in
    let is = IsSquare-square_at k q (omega arith) in
    let it = IsSquare-square_at k (q + 1) h in
    let m = way (quadrant s.orientation 3) (quadrant t.orientation 0) in
    let hm = way_below s.orientation t.orientation is.orientation it.orientation in
    let face : s.face ≡ t.face = face-square_at k q ∙ e ∙ sym (face-square_at k (q + 1)) in
    record { side = m; is_side = hm; beside = subst (λ g. IsBeside (2 ^ k) m s.face s.i s.j g t.i t.j) face (beside_step (hm, is.face, is.i, is.j, it.i, it.j, along_face k q h e)) }

-- a place and the next one on different faces
face_ends : (q b : ℕ) → 0 < b → (q / b ≡ (q + 1) / b → ⊥) → q + 1 ≡ (q / b + 1) * b
face_ends q b h ne =
    let split = div-add-mod' q b in
    elim (cases_lt (q % b + 1) b) [
      | inl inside ↦ absurd (ne (sym (ap (λ x. x / b) (let e : q + 1 ≡ q / b * b + (q % b + 1) = omega arith in e) ∙ div-mul-add (q / b) b (q % b + 1) inside)))
      | inr edge ↦ by (q / b) (q % b) q b split (let m : q % b < b = mod_below q b h in let e : q % b + 1 ≡ b = omega arith in e)
    ]
  where
    by : (x r q b : ℕ) → x * b + r ≡ q → r + 1 ≡ b → q + 1 ≡ (x + 1) * b
    by x r q b e f = let t : (x + 1) * b ≡ x * b + b = omega arith in omega arith

next_has_side : (k q r : ℕ) → q < 6 * 4 ^ k → r ≡ (q + 1) % (6 * 4 ^ k) → HasSide (2 ^ k) (square_at k q) (square_at k r)
next_has_side k q r hq er =
    let b = 4 ^ k in
    let pos = four_pos k in
    elim (cases_lt (q + 1) (6 * b)) [
      | inl lt ↦
          let next : r ≡ q + 1 = er ∙ ap (λ x. x % (6 * b)) (let e : q + 1 ≡ 0 * (6 * b) + (q + 1) = omega arith in e) ∙ mod-mul-add 0 (6 * b) (q + 1) lt in
          elim (cases_eq (q / b) ((q + 1) / b)) [
            | inl same ↦ subst (λ x. HasSide (2 ^ k) (square_at k q) (square_at k x)) (sym next) (on_one_face k q lt same)
            | inr other ↦
                let ends = face_ends q b pos other in
                let below : q / b + 1 < 6 = few (q / b) b (subst (λ x. x < 6 * b) ends lt) in
                from_face_to_face k (q / b) q r (omega arith) ends (next ∙ ends ∙ ap (λ x. x * b) (let e : q / b + 1 ≡ (q / b + 1) % 6 = omega arith in e))
          ]
      | inr ge ↦
          let all : q + 1 ≡ 6 * b = omega arith in
          let next : r ≡ 0 = er ∙ ap (λ x. x % (6 * b)) (all ∙ (let e : 6 * b ≡ 1 * (6 * b) + 0 = omega arith in e)) ∙ mod-mul-add 1 (6 * b) 0 (omega arith) in
          from_face_to_face k 5 q r (omega arith) all (next ∙ (let e : 0 ≡ 0 * 4 ^ k = omega arith in e))
    ]
  where
    few : (x b : ℕ) → (x + 1) * b < 6 * b → x + 1 < 6
    few x b h = lt_of_mul (x + 1) 6 b h

-- a cell and the next cell along the curve share an edge
pub next_shares : (p q : Path) → IsPath p → IsPath q → length p.digits ≡ length q.digits
    → place_of q ≡ (place_of p + 1) % (6 * 4 ^ length p.digits) → ShareEdge p q
next_shares p q hp hq long place =
    let k = length p.digits in
    let h = next_has_side k (place_of p) (place_of q) (place_below p hp) place in
    let s : square_at k (place_of p) ≡ square_of p = sym (square_of_place p hp) in
    let t : square_at k (place_of q) ≡ square_of q = ap (λ x. square_at x (place_of q)) long ∙ sym (square_of_place q hq) in
    let P : FaceIj → FaceIj → Type 0 = λ x y. IsBeside (2 ^ k) h.side x.face x.i x.j y.face y.i y.j in
    record { side = h.side; is_side = h.is_side; shares = shares_from_beside h.side p q h.is_side hp hq long (subst (λ x. P x (square_of q)) s (subst (λ y. P (square_at k (place_of p)) y) t h.beside)) }
