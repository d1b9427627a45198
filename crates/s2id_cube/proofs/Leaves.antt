-- A cell's square from the square of a leaf in it, and back.
use Rattle.std.proofs.Common.{◌≡◌, ℕ, zero, suc, ◌+◌, ◌-◌, ◌*◌, ◌/◌, ◌%◌, ◌^◌, ◌<◌, ◌≤◌, bit_xor, length, sym, ◌∙◌, ap, ap₂, refl, arith, subst}
use Rattle.std.proofs.Math.Nat.{mul-lt-mul_of_pos_right}
use Rattle.std.proofs.lemmas.Nat.{div-mul-add, pow-add, pow_pos}
use Rattle.s2id_core.specs.Path.{Path, IsPath, place_of}
use Rattle.s2id_core.proofs.Powers.{four_step, four_pos, four_pow, four_split}
use Rattle.s2id_cube.specs.declared.face_ij.FaceIj.{FaceIj}
use Rattle.s2id_cube.specs.Square.{turned, quarter, square_of}
use Rattle.s2id_cube.specs.Loops.{square_at}
use Rattle.s2id_cube.proofs.Cases.{four}
use Rattle.s2id_cube.proofs.Squares.{IsSquareOf, square_of_place, IsSquare-square_at, square_at_more, place_above, cell_fits}
use Rattle.s2id_cube.proofs.Nesting.{above_at}
use Rattle.s2id_cube.proofs.Groups.{IsLeafPlace}

-- ---- the orientation, after positions 0

flip_zero : (o : ℕ) → o < 4 → bit_xor o 0 ≡ o
flip_zero o h = four (λ o. bit_xor o 0 ≡ o) (refl, refl, refl, refl) o h

flip_again : (o x : ℕ) → o < 4 → x < 2 → bit_xor (bit_xor o x) 1 ≡ bit_xor o (1 - x)
flip_again o zero h hx = four (λ o. bit_xor (bit_xor o 0) 1 ≡ bit_xor o 1) (refl, refl, refl, refl) o h
flip_again o (suc zero) h hx = four (λ o. bit_xor (bit_xor o 1) 1 ≡ bit_xor o 0) (refl, refl, refl, refl) o h
flip_again o (suc (suc x)) h hx = absurd (omega arith)

flip_back : (o x : ℕ) → o < 4 → x < 2 → bit_xor (bit_xor o x) x ≡ o
flip_back o zero h hx = four (λ o. bit_xor (bit_xor o 0) 0 ≡ o) (refl, refl, refl, refl) o h
flip_back o (suc zero) h hx = four (λ o. bit_xor (bit_xor o 1) 1 ≡ o) (refl, refl, refl, refl) o h
flip_back o (suc (suc x)) h hx = absurd (omega arith)

orientation_below : (d k p : ℕ) → p < 6 * 4 ^ k → (square_at (d + k) (p * 4 ^ d)).orientation ≡ bit_xor (square_at k p).orientation (d % 2)
unfolding quarter turned
orientation_below zero k p h =
    ap₂ (λ n q. (square_at n q).orientation) (let e : 0 + k ≡ k = omega arith in e) (let e : p * 4 ^ 0 ≡ p = omega arith in e) ∙ sym (flip_zero (square_at k p).orientation (IsSquare-square_at k p h).orientation)
orientation_below (suc d) k p h =
    let o = (square_at k p).orientation in
    let step = four_step d in
    let e : p * 4 ^ suc d ≡ p * 4 ^ d * 4 + 0 = ap (λ x. p * x) step ∙ turn p (4 ^ d) in
    let deep : suc d + k ≡ suc (d + k) = omega arith in
    let more : square_at (suc d + k) (p * 4 ^ suc d) ≡ quarter 0 (square_at (d + k) (p * 4 ^ d)) = ap₂ square_at deep e ∙ square_at_more (d + k) (p * 4 ^ d) 0 (omega arith) in
    let up = orientation_below d k p h in
    ap (λ (s : FaceIj). s.orientation) more ∙ ap (λ x. bit_xor x 1) up ∙ flip_again o (d % 2) (IsSquare-square_at k p h).orientation (omega arith) ∙ ap (λ x. bit_xor o x) (let m : 1 - d % 2 ≡ suc d % 2 = omega arith in m)
  where
    turn : (a b : ℕ) → a * (4 * b) ≡ a * b * 4 + 0
    turn a b = omega arith

-- ---- from a leaf to the cell

-- the cell's square, as the code takes it from the square of its first leaf
abbrev pub taken : FaceIj → ℕ → FaceIj
taken leaf level = record { face = leaf.face; i = leaf.i / 2 ^ (30 - level); j = leaf.j / 2 ^ (30 - level); level = level; orientation = bit_xor leaf.orientation ((30 - level) % 2) }

pub taken_is : (p : Path) → IsPath p → (level place shifted : ℕ) (leaf : FaceIj) → level ≡ length p.digits → place ≡ place_of p
    → shifted ≡ place * 4 ^ (30 - level) → leaf ≡ square_at 30 shifted → taken leaf level ≡ square_of p
taken_is p path level place shifted leaf el ep es is =
    let d = 30 - level in
    let fits = cell_fits p path level place el ep in
    let deep : 30 ≡ d + level = omega arith in
    let pos = four_pos d in
    let q = place * 4 ^ d in
    let back : q / 4 ^ d ≡ place = ap (λ x. x / 4 ^ d) (let e : q ≡ q + 0 = omega arith in e) ∙ div-mul-add place (4 ^ d) 0 pos in
    let wide : q < 6 * 4 ^ (d + level) = wider place (4 ^ level) (4 ^ d) (4 ^ (d + level)) fits.1 pos (ap (λ x. 4 ^ x) (let e : d + level ≡ level + d = omega arith in e) ∙ pow-add 4 level d) in
    let t = square_at level place in
    let s = square_at (d + level) q in
    let leaf_is : leaf ≡ s = is ∙ ap₂ square_at deep es in
    let up = above_at d level q wide in
    let top : square_at level (q / 4 ^ d) ≡ t = ap (square_at level) back in
    let own : t ≡ square_of p = sym (square_of_place p path ∙ ap₂ square_at (sym el) (sym ep)) in
    let sq = IsSquare-square_at level place fits.1 in
    let face : leaf.face ≡ t.face = ap (λ (x : FaceIj). x.face) leaf_is ∙ up.face ∙ ap (λ (x : FaceIj). x.face) top in
    let column : leaf.i / 2 ^ d ≡ t.i = ap (λ (x : FaceIj). x.i / 2 ^ d) leaf_is ∙ up.column ∙ ap (λ (x : FaceIj). x.i) top in
    let row : leaf.j / 2 ^ d ≡ t.j = ap (λ (x : FaceIj). x.j / 2 ^ d) leaf_is ∙ up.row ∙ ap (λ (x : FaceIj). x.j) top in
    let turn : bit_xor leaf.orientation (d % 2) ≡ t.orientation = ap (λ (x : FaceIj). bit_xor x.orientation (d % 2)) leaf_is ∙ ap (λ x. bit_xor x (d % 2)) (orientation_below d level place fits.1) ∙ flip_back t.orientation (d % 2) sq.orientation (omega arith) in
    let same : taken leaf level ≡ t = λ k. record { face = face k; i = column k; j = row k; level = sym sq.level k; orientation = turn k } in
    same ∙ own
  where
    wider : (m a b c : ℕ) → m < 6 * a → 0 < b → c ≡ a * b → m * b < 6 * c
    wider m a b c h pos e = let x : m * b < 6 * a * b = mul-lt-mul_of_pos_right h pos in let y : 6 * a * b ≡ 6 * (a * b) = omega arith in omega arith

-- a place of a level that is shifted to the level of leaves
pub shifted_to_leaf : (level place : ℕ) → level ≤ 30 → place < 6 * 4 ^ level
    → (place * 2 ^ (2 * (30 - level)) % 2 ^ 64 ≡ place * 4 ^ (30 - level)) × (place * 4 ^ (30 - level) < 6 * 2 ^ 60)
shifted_to_leaf level place hl hp =
    let d = 30 - level in
    let e = four_pow d in
    let whole = four_split 30 level hl in
    let small : place * 4 ^ d < 6 * (4 ^ level * 4 ^ d) = by place (4 ^ level) (4 ^ d) (four_pos d) hp in
    let same : place * 2 ^ (2 * d) ≡ place * 4 ^ d = ap (λ x. place * x) e in
    (omega arith, omega arith)
  where
    by : (m a b : ℕ) → 0 < b → m < 6 * a → m * b < 6 * (a * b)
    by m a b pos h = let x : m * b < 6 * a * b = mul-lt-mul_of_pos_right h pos in let y : 6 * a * b ≡ 6 * (a * b) = omega arith in omega arith

-- a coordinate that is shifted to the level of leaves
pub shifted_coordinate : (level i : ℕ) → level ≤ 30 → i < 2 ^ level
    → (i * 2 ^ (30 - level) % 2 ^ 32 ≡ i * 2 ^ (30 - level)) × (i * 2 ^ (30 - level) < 2 ^ 30) × (i * 2 ^ (30 - level) / 2 ^ (30 - level) ≡ i)
shifted_coordinate level i hl hi =
    let d = 30 - level in
    let pos = pow_pos d in
    let whole : 2 ^ level * 2 ^ d ≡ 2 ^ 30 = sym (pow-add 2 level d) ∙ ap (λ x. 2 ^ x) (let e : level + d ≡ 30 = omega arith in e) in
    let small : i * 2 ^ d < 2 ^ level * 2 ^ d = mul-lt-mul_of_pos_right hi pos in
    let back : i * 2 ^ d / 2 ^ d ≡ i = ap (λ x. x / 2 ^ d) (let e : i * 2 ^ d ≡ i * 2 ^ d + 0 = omega arith in e) ∙ div-mul-add i (2 ^ d) 0 pos in
    (omega arith, omega arith, back)

-- ---- from a cell's leaf to the cell's place

pub place_of_leaf : (level place : ℕ) → level ≤ 30 → place < 6 * 4 ^ 30
    → (place / 2 ^ (2 * (30 - level)) ≡ place / 4 ^ (30 - level)) × (place / 4 ^ (30 - level) < 6 * 4 ^ level)
place_of_leaf level place hl hp = (ap (λ x. place / x) (four_pow (30 - level)), place_above place 30 level hl hp)

pub square_from_leaf : (p : Path) → IsPath p → (face i j level place : ℕ) → level ≤ 30 → length p.digits ≡ level
    → place_of p ≡ place / 4 ^ (30 - level) → i * 2 ^ (30 - level) / 2 ^ (30 - level) ≡ i → j * 2 ^ (30 - level) / 2 ^ (30 - level) ≡ j
    → IsLeafPlace face (i * 2 ^ (30 - level)) (j * 2 ^ (30 - level)) place → IsSquareOf p face i j level
square_from_leaf p path face i j level place hl el ep bi bj leaf =
    let d = 30 - level in
    let deep : d + level ≡ 30 = omega arith in
    let up = above_at d level place (subst (λ n. place < 6 * 4 ^ n) (sym deep) leaf.below) in
    let same : square_of p ≡ square_at level (place / 4 ^ d) = square_of_place p path ∙ ap₂ square_at el ep in
    let s : square_at (d + level) place ≡ square_at 30 place = ap (λ n. square_at n place) deep in
    record {
      at_face = ap (λ (x : FaceIj). x.face) same ∙ sym up.face ∙ ap (λ (x : FaceIj). x.face) s ∙ leaf.at_face;
      at_i = ap (λ (x : FaceIj). x.i) same ∙ sym up.column ∙ ap (λ (x : FaceIj). x.i / 2 ^ d) s ∙ ap (λ x. x / 2 ^ d) leaf.at_i ∙ bi;
      at_j = ap (λ (x : FaceIj). x.j) same ∙ sym up.row ∙ ap (λ (x : FaceIj). x.j / 2 ^ d) s ∙ ap (λ x. x / 2 ^ d) leaf.at_j ∙ bj;
      at_level = ap (λ (x : FaceIj). x.level) same ∙ (IsSquare-square_at level (place / 4 ^ d) (place_above place 30 level hl leaf.below)).level;
    }
