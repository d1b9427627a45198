-- A finer square lies in the square of its ancestor.
use Rattle.std.proofs.Common.{◌≡◌, ℕ, zero, suc, ◌+◌, ◌-◌, ◌*◌, ◌/◌, ◌%◌, ◌^◌, ◌<◌, ◌≤◌, length, get_or, sym, ◌∙◌, ap, ap₂, refl, arith, subst}
use Rattle.std.proofs.Math.Nat.{div-div-eq-div-mul}
use Rattle.std.proofs.lemmas.Nat.{div-mul-add, div-add-mod', mod_below}
use Rattle.s2id_core.specs.Path.{Path, IsPath, place_of, path_at, ancestor}
use Rattle.s2id_core.specs.Leaves.{IsWithin}
use Rattle.s2id_core.proofs.Powers.{four_step, two_step}
use Rattle.s2id_core.proofs.Numbers.{place_below, path_of_cell}
use Rattle.s2id_core.proofs.Levels.{length-ancestor, IsPath-ancestor, place_of-ancestor}
use Rattle.s2id_cube.specs.declared.face_ij.FaceIj.{FaceIj}
use Rattle.s2id_cube.specs.Square.{quadrant, quarter, whole_face, square_of}
use Rattle.s2id_cube.proofs.Quadrants.{positions, quadrant_below, position_below, quadrant_of_position}
use Rattle.s2id_core.proofs.Bits.{cell_at_place, level_at_place, place_at_place}
use Rattle.s2id_cube.specs.Neighbor.{number_at}
use Rattle.s2id_cube.specs.Loops.{square_at}
use Rattle.s2id_cube.proofs.Squares.{square_at_more, square_of_place, IsSquare-square_at}
use Rattle.s2id_cube.proofs.Shared.{one_path}

-- the square t has the square s, which is d levels finer
pub record IsAbove (d : ℕ) (t s : FaceIj) : Type 0 where
  pub face : s.face ≡ t.face
  pub column : s.i / 2 ^ d ≡ t.i
  pub row : s.j / 2 ^ d ≡ t.j

half_quotient : (x b d : ℕ) → b < 2 → (2 * x + b) / 2 ^ suc d ≡ x / 2 ^ d
half_quotient x b d h =
    ap (λ z. (2 * x + b) / z) (two_step d) ∙ sym (div-div-eq-div-mul (2 * x + b) 2 (2 ^ d)) ∙ ap (λ z. z / 2 ^ d) (let e : (2 * x + b) / 2 ≡ x = omega arith in e)

pub above_at : (d k q : ℕ) → q < 6 * 4 ^ (d + k) → IsAbove d (square_at k (q / 4 ^ d)) (square_at (d + k) q)
unfolding square_at quarter
above_at zero k q h =
    let e : square_at (0 + k) q ≡ square_at k (q / 4 ^ 0) = ap₂ square_at (let a : 0 + k ≡ k = omega arith in a) (let b : q ≡ q / 4 ^ 0 = omega arith in b) in
    let whole : (x : ℕ) → x / 2 ^ 0 ≡ x = λ x. omega arith in
    record {
      face = ap (λ (s : FaceIj). s.face) e;
      column = whole (square_at (0 + k) q).i ∙ ap (λ (s : FaceIj). s.i) e;
      row = whole (square_at (0 + k) q).j ∙ ap (λ (s : FaceIj). s.j) e;
    }
above_at (suc d) k q h =
    let s = square_at (d + k) (q / 4) in
    let deep : suc d + k ≡ suc (d + k) = omega arith in
    let e : square_at (suc d + k) q ≡ quarter (q % 4) s = ap (λ x. square_at x q) deep in
    let wide : 4 ^ (suc d + k) ≡ 4 * 4 ^ (d + k) = ap (λ x. 4 ^ x) deep ∙ four_step (d + k) in
    let below : q / 4 < 6 * 4 ^ (d + k) = omega arith in
    let up = above_at d k (q / 4) below in
    let is = IsSquare-square_at (d + k) (q / 4) below in
    let quad = quadrant_below s.orientation (q % 4) is.orientation (omega arith) in
    let same : q / 4 / 4 ^ d ≡ q / 4 ^ suc d = div-div-eq-div-mul q 4 (4 ^ d) ∙ ap (λ x. q / x) (sym (four_step d)) in
    subst (IsAbove (suc d) (square_at k (q / 4 ^ suc d))) (sym e)
    (record {
      face = up.face ∙ ap (λ x. (square_at k x).face) same;
      column = half_quotient s.i (quadrant s.orientation (q % 4) / 2) d (omega arith) ∙ up.column ∙ ap (λ x. (square_at k x).i) same;
      row = half_quotient s.j (quadrant s.orientation (q % 4) % 2) d (omega arith) ∙ up.row ∙ ap (λ x. (square_at k x).j) same;
    })

-- the square of a cell lies in that of its ancestor
pub above_ancestor : (k : ℕ) (q : Path) → IsPath q → k ≤ length q.digits
    → IsAbove (length q.digits - k) (square_of (ancestor k q)) (square_of q)
above_ancestor k q path h =
    let d = length q.digits - k in
    let deep : d + k ≡ length q.digits = omega arith in
    let top : square_of (ancestor k q) ≡ square_at k (place_of q / 4 ^ d) = square_of_place (ancestor k q) (IsPath-ancestor k q path h) ∙ ap₂ square_at (length-ancestor k q h) (place_of-ancestor k q path h) in
    let here : square_at (d + k) (place_of q) ≡ square_of q = ap (λ x. square_at x (place_of q)) deep ∙ sym (square_of_place q path) in
    let below : place_of q < 6 * 4 ^ (d + k) = subst (λ x. place_of q < 6 * 4 ^ x) (sym deep) (place_below q path) in
    subst (λ t. IsAbove d t (square_of q)) (sym top) (subst (λ s. IsAbove d (square_at k (place_of q / 4 ^ d)) s) here (above_at d k (place_of q) below))

-- a cell lies within another exactly if its square lies in the other's
pub nested_path : (p q : Path) (d : ℕ) → IsPath q → length q.digits ≡ length p.digits + d → IsWithin q p
    → IsAbove d (square_of p) (square_of q)
nested_path p q d path long within =
    let at = subst (λ x. IsAbove (length q.digits - length p.digits) (square_of x) (square_of q)) within (above_ancestor (length p.digits) q path (omega arith)) in
    subst (λ x. IsAbove x (square_of p) (square_of q)) (let e : length q.digits - length p.digits ≡ d = omega arith in e) at

pub within_of_square : (p q : Path) (d : ℕ) → IsPath p → IsPath q → length q.digits ≡ length p.digits + d
    → IsAbove d (square_of p) (square_of q) → IsWithin q p
within_of_square p q d hp hq long h =
    let k = length p.digits in
    let deep : k ≤ length q.digits = omega arith in
    let at : IsAbove d (square_of (ancestor k q)) (square_of q) = subst (λ x. IsAbove x (square_of (ancestor k q)) (square_of q)) (let e : length q.digits - k ≡ d = omega arith in e) (above_ancestor k q hq deep) in
    one_path (ancestor k q) p (IsPath-ancestor k q hq deep) hp (length-ancestor k q deep) (sym at.face ∙ h.face) (sym at.column ∙ h.column) (sym at.row ∙ h.row)

-- ---- each square of a grid is some cell's

pub record IsAt (s : FaceIj) (f i j : ℕ) : Type 0 where
  pub face : s.face ≡ f
  pub column : s.i ≡ i
  pub row : s.j ≡ j

record HasPlace (k f i j : ℕ) : Type 0 where
  place : ℕ
  below : place < 6 * 4 ^ k
  square : IsAt (square_at k place) f i j

place_of_square : (k f i j : ℕ) → f < 6 → i < 2 ^ k → j < 2 ^ k → HasPlace k f i j
unfolding square_at whole_face quarter
place_of_square zero f i j hf hi hj = record { place = f; below = omega arith; square = record { face = refl; column = omega arith; row = omega arith } }
place_of_square (suc k) f i j hf hi hj =
    let two = two_step k in
    let four = four_step k in
    let r = place_of_square k f (i / 2) (j / 2) hf (omega arith) (omega arith) in
    let below = r.below in
    let column = r.square.column in
    let row = r.square.row in
    let s = square_at k r.place in
    let is = IsSquare-square_at k r.place r.below in
    let x = 2 * (i % 2) + j % 2 in
    let small : x < 4 = omega arith in
    let d = get_or positions (4 * s.orientation + x) 0 in
    let dd : d < 4 = position_below s.orientation x is.orientation small in
    let quad : quadrant s.orientation d ≡ x = quadrant_of_position s.orientation x is.orientation small in
    record {
      place = r.place * 4 + d;
      below = omega arith;
      square = subst (λ t. IsAt t f i j) (sym (square_at_more k r.place d dd)) (record { face = r.square.face; column = omega arith; row = omega arith });
    }

pub record HasCell (k f i j : ℕ) : Type 0 where
  pub path : Path
  pub is_path : IsPath path
  pub long : length path.digits ≡ k
  pub square : IsAt (square_of path) f i j

pub cell_of_square : (k f i j : ℕ) → k ≤ 30 → f < 6 → i < 2 ^ k → j < 2 ^ k → HasCell k f i j
cell_of_square k f i j most hf hi hj =
    let r = place_of_square k f i j hf hi hj in
    let n = number_at k r.place in
    let p = path_at n in
    let path = path_of_cell n (cell_at_place k r.place n most r.below refl) in
    let long : length p.digits ≡ k = level_at_place k r.place n most refl in
    let same : square_of p ≡ square_at k r.place = square_of_place p path ∙ ap₂ square_at long (place_at_place k r.place n most refl) in
    record { path = p; is_path = path; long = long; square = subst (λ t. IsAt t f i j) (sym same) r.square }

-- ---- quotients and bounds of columns

pub bounds_from_quotient : (w x a : ℕ) → 0 < w → x / w ≡ a → (a * w ≤ x) × (x < a * w + w)
bounds_from_quotient w x a pos e =
    let split = div-add-mod' x w in
    let rest = mod_below x w pos in
    let same = ap (λ y. y * w) e in
    (omega arith, omega arith)

pub quotient_from_bounds : (w x a : ℕ) → a * w ≤ x → x < a * w + w → x / w ≡ a
quotient_from_bounds w x a from to =
    ap (λ y. y / w) (let e : x ≡ a * w + (x - a * w) = omega arith in e) ∙ div-mul-add a w (x - a * w) (omega arith)
