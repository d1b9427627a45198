-- Squares by the place of the cell along the curve.
use Rattle.std.proofs.Common.{◌≡◌, ℕ, zero, suc, ◌+◌, ◌-◌, ◌*◌, ◌/◌, ◌%◌, ◌^◌, ◌<◌, ◌≤◌, List, [], ◌∷◌, length, All, get_or, sym, ◌∙◌, ap, ap₂, refl, arith, subst}
use Rattle.std.proofs.Math.Nat.{div-div-eq-div-mul}
use Rattle.std.proofs.lemmas.List.Elements.{All-head, All-tail}
use Rattle.std.proofs.lemmas.Nat.{div-mul-add, mod-mul-add, div_below}
use Rattle.s2id_core.specs.Path.{Path, IsPath, base_four, place_of}
use Rattle.s2id_core.proofs.Powers.{four_step, two_step, four_pos, four_split}
use Rattle.s2id_core.proofs.Numbers.{place_below}
use Rattle.s2id_cube.specs.declared.face_ij.FaceIj.{FaceIj}
use Rattle.s2id_cube.specs.Square.{quadrant, quarter, whole_face, square_after, square_of}
use Rattle.s2id_cube.specs.Loops.{square_at, IsSquare}
use Rattle.s2id_cube.proofs.Quadrants.{positions, quadrant_below, turned_below, position_of_quadrant}

-- one more digit
pub square_at_more : (k q d : ℕ) → d < 4 → square_at (suc k) (q * 4 + d) ≡ quarter d (square_at k q)
unfolding square_at
square_at_more k q d h = ap₂ (λ x y. quarter x (square_at k y)) (mod-mul-add q 4 d h) (div-mul-add q 4 d h)

pub square_after_at : (ds : List ℕ) (k q : ℕ) → All (λ d. d < 4) ds
    → square_after (square_at k q) ds ≡ square_at (length ds + k) (q * 4 ^ length ds + base_four ds)
unfolding square_after base_four
square_after_at [] k q h = ap₂ square_at (let e : k ≡ 0 + k = omega arith in e) (let e : q ≡ q * 4 ^ 0 + 0 = omega arith in e)
square_after_at (d ∷ ds) k q h =
    let head : d < 4 = All-head (λ d. d < 4) d ds h in
    let step = four_step (length ds) in
    ap (λ s. square_after s ds) (sym (square_at_more k q d head)) ∙ square_after_at ds (suc k) (q * 4 + d) (All-tail (λ d. d < 4) d ds h) ∙ ap₂ square_at (let e : length ds + suc k ≡ suc (length ds) + k = omega arith in e) (turn q d (4 ^ length ds) (base_four ds) ∙ ap (λ x. q * x + (d * 4 ^ length ds + base_four ds)) (sym step))
  where
    turn : (q d b v : ℕ) → (q * 4 + d) * b + v ≡ q * (4 * b) + (d * b + v)
    turn q d b v = omega arith

-- a cell's square by its place
pub square_of_place : (p : Path) → IsPath p → square_of p ≡ square_at (length p.digits) (place_of p)
unfolding square_of square_at place_of
square_of_place p path = square_after_at p.digits 0 p.face path.digits_below ∙ ap (λ k. square_at k (p.face * 4 ^ length p.digits + base_four p.digits)) (let e : length p.digits + 0 ≡ length p.digits = omega arith in e)

pub IsSquare-whole_face : (f : ℕ) → f < 6 → IsSquare 0 (whole_face f)
unfolding whole_face
IsSquare-whole_face f h = record { level = refl; face = h; i = omega arith; j = omega arith; orientation = omega arith }

pub IsSquare-quarter : (k d : ℕ) (s : FaceIj) → d < 4 → IsSquare k s → IsSquare (suc k) (quarter d s)
unfolding quarter
IsSquare-quarter k d s h is =
    let q = quadrant_below s.orientation d is.orientation h in
    let step = two_step k in
    record {
      level = let e = is.level in omega arith;
      face = is.face;
      i = let e = is.i in omega arith;
      j = let e = is.j in omega arith;
      orientation = turned_below s.orientation d is.orientation h;
    }

pub IsSquare-square_at : (k q : ℕ) → q < 6 * 4 ^ k → IsSquare k (square_at k q)
unfolding square_at
IsSquare-square_at zero q h = IsSquare-whole_face q (omega arith)
IsSquare-square_at (suc k) q h = IsSquare-quarter k (q % 4) (square_at k (q / 4)) (omega arith) (IsSquare-square_at k (q / 4) (let step = four_step k in omega arith))

pub face-square_at : (k q : ℕ) → (square_at k q).face ≡ q / 4 ^ k
unfolding square_at quarter whole_face
face-square_at zero q = omega arith
face-square_at (suc k) q = face-square_at k (q / 4) ∙ div-div-eq-div-mul q 4 (4 ^ k) ∙ ap (λ x. q / x) (sym (four_step k))

-- the square tells the place
pub one_place : (k q r : ℕ) → q < 6 * 4 ^ k → r < 6 * 4 ^ k → (square_at k q).face ≡ (square_at k r).face
    → (square_at k q).i ≡ (square_at k r).i → (square_at k q).j ≡ (square_at k r).j → q ≡ r
unfolding square_at quarter whole_face
one_place zero q r hq hr face i j = face
one_place (suc k) q r hq hr face i j =
    let step = four_step k in
    let hq' : q / 4 < 6 * 4 ^ k = omega arith in
    let hr' : r / 4 < 6 * 4 ^ k = omega arith in
    let s = square_at k (q / 4) in
    let t = square_at k (r / 4) in
    let is_s = IsSquare-square_at k (q / 4) hq' in
    let is_t = IsSquare-square_at k (r / 4) hr' in
    let dq : q % 4 < 4 = omega arith in
    let dr : r % 4 < 4 = omega arith in
    let a = quadrant_below s.orientation (q % 4) is_s.orientation dq in
    let b = quadrant_below t.orientation (r % 4) is_t.orientation dr in
    let same : q / 4 ≡ r / 4 = one_place k (q / 4) (r / 4) hq' hr' face (omega arith) (omega arith) in
    let turn : s.orientation ≡ t.orientation = ap (λ x. (square_at k x).orientation) same in
    let quad : quadrant s.orientation (q % 4) ≡ quadrant t.orientation (r % 4) = omega arith in
    let digit : q % 4 ≡ r % 4 = sym (position_of_quadrant s.orientation (q % 4) is_s.orientation dq) ∙ ap₂ (λ o x. get_or positions (4 * o + x) 0) turn quad ∙ position_of_quadrant t.orientation (r % 4) is_t.orientation dr in
    omega arith

-- ---- the place of a cell

pub place_above : (q k t : ℕ) → t ≤ k → q < 6 * 4 ^ k → q / 4 ^ (k - t) < 6 * 4 ^ t
place_above q k t h hq = div_below q (4 ^ (k - t)) (6 * 4 ^ t) (four_pos (k - t)) (let e = four_split k t h in let a : 6 * 4 ^ t * 4 ^ (k - t) ≡ 6 * (4 ^ t * 4 ^ (k - t)) = turn (4 ^ t) (4 ^ (k - t)) in omega arith)
  where
    turn : (a b : ℕ) → 6 * a * b ≡ 6 * (a * b)
    turn a b = omega arith

-- the level and the place of a cell, as the code has them
pub cell_fits : (p : Path) → IsPath p → (level place : ℕ) → level ≡ length p.digits → place ≡ place_of p
    → (level ≤ 30) × (place < 6 * 4 ^ level)
cell_fits p path level place el ep =
    let a = path.at_most in
    (omega arith, subst (λ x. place < 6 * 4 ^ x) (sym el) (subst (λ x. x < 6 * 4 ^ length p.digits) (sym ep) (place_below p path)))

pub record IsSquareOf (p : Path) (face i j level : ℕ) : Type 0 where
  pub at_face : (square_of p).face ≡ face
  pub at_i : (square_of p).i ≡ i
  pub at_j : (square_of p).j ≡ j
  pub at_level : (square_of p).level ≡ level
