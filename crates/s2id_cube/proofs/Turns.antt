-- How the curve runs through a cell, from the positions on the way there: each 3 inverts, and each 0 and 3 swaps.
use Rattle.std.proofs.Common.{◌≡◌, ℕ, zero, suc, ◌+◌, ◌*◌, ◌/◌, ◌%◌, ◌^◌, ◌<◌, ◌≤◌, bit_and, sym, ◌∙◌, ap, ap₂, refl, arith}
use Rattle.std.specs.Int.Count.{ones}
use Rattle.std.proofs.Math.Nat.{div-div-eq-div-mul, div-le_self, mod-le, pow-le-pow_right}
use Rattle.std.proofs.lemmas.Nat.{ones_le_self, and_block, ones_cat, mod-mul-add, div-add-mod', mod_below, one_shl}
use Rattle.std.specs.Int.Bits.{and_lt, and_zero_l}
use Rattle.s2id_core.proofs.Powers.{four_step, four_pos, four_pow}
use Rattle.s2id_cube.specs.Square.{turned, quarter, whole_face}
use Rattle.s2id_cube.specs.Loops.{square_at}
use Rattle.s2id_cube.proofs.Cases.{four, four_by_four}

-- the lower binary digit of each of n positions
abbrev pub lower_ones : ℕ → ℕ
lower_ones zero = 0
lower_ones (suc n) = lower_ones n * 4 + 1

-- how many of the last n positions are 3, as the code counts them
abbrev pub threes : ℕ → ℕ → ℕ
threes n u = ones (bit_and (bit_and u (u / 2)) (lower_ones n))

three : ℕ → ℕ → ℕ
three d b = bit_and (bit_and d (2 * b + d / 2)) 1

-- one more position
threes_more : (n z d : ℕ) → d < 4 → threes (suc n) (z * 4 + d) ≡ threes n z + ones (three d (z % 2))
unfolding three
threes_more n z d h =
    let half : (z * 4 + d) / 2 ≡ z / 2 * 4 + (2 * (z % 2) + d / 2) = omega arith in
    let first : bit_and (z * 4 + d) ((z * 4 + d) / 2) ≡ bit_and z (z / 2) * 4 + bit_and d (2 * (z % 2) + d / 2) = ap (bit_and (z * 4 + d)) half ∙ and_block 2 z (z / 2) d (2 * (z % 2) + d / 2) h (omega arith) in
    ap (λ x. ones (bit_and x (lower_ones n * 4 + 1))) first
    ∙ ap ones (and_block 2 (bit_and z (z / 2)) (lower_ones n) (bit_and d (2 * (z % 2) + d / 2)) 1 (small d (z % 2) h (omega arith)) (omega arith))
    ∙ ones_cat 2 (bit_and (bit_and z (z / 2)) (lower_ones n)) (bit_and (bit_and d (2 * (z % 2) + d / 2)) 1) (less d (z % 2) h (omega arith))
  where
    small : (d b : ℕ) → d < 4 → b < 2 → bit_and d (2 * b + d / 2) < 2 ^ 2
    small d b hd hb = and_lt 2 d (2 * b + d / 2) hd (omega arith)

    less : (d b : ℕ) → d < 4 → b < 2 → bit_and (bit_and d (2 * b + d / 2)) 1 < 2 ^ 2
    less d b hd hb = and_lt 2 (bit_and d (2 * b + d / 2)) 1 (small d b hd hb) (omega arith)

three_ones : (d b : ℕ) → d < 4 → b < 2 → ones (three d b) ≡ d / 3
unfolding three ones
three_ones d zero h hb = four (λ d. ones (three d 0) ≡ d / 3) (refl, refl, refl, refl) d h
three_ones d (suc zero) h hb = four (λ d. ones (three d 1) ≡ d / 3) (refl, refl, refl, refl) d h
three_ones d (suc (suc b)) h hb = absurd (omega arith)

-- the orientation after one more position
turned_is : (o d : ℕ) → o < 4 → d < 4 → turned o d ≡ 2 * ((o / 2 + d / 3) % 2) + (o % 2 + ones d + 1) % 2
unfolding turned ones
turned_is o d = four_by_four (λ o d. turned o d ≡ 2 * ((o / 2 + d / 3) % 2) + (o % 2 + ones d + 1) % 2) (
  (refl, refl, refl, refl),
  (refl, refl, refl, refl),
  (refl, refl, refl, refl),
  (refl, refl, refl, refl),
) o d

last_positions : (q b : ℕ) → 0 < b → q % (4 * b) ≡ q / 4 % b * 4 + q % 4
last_positions q b pos =
    let z = q / 4 in
    let split = div-add-mod' z b in
    let small = mod_below z b pos in
    ap (λ x. x % (4 * b)) (let e : q ≡ z / b * (4 * b) + (z % b * 4 + q % 4) = turn q (z / b) (z % b) b split in e) ∙ mod-mul-add (z / b) (4 * b) (z % b * 4 + q % 4) (omega arith)
  where
    turn : (q x y b : ℕ) → x * b + y ≡ q / 4 → q ≡ x * (4 * b) + (y * 4 + q % 4)
    turn q x y b e = let m : x * (4 * b) ≡ 4 * (x * b) = omega arith in omega arith

-- the orientation, counted
pub counted : (k n q : ℕ) → k ≤ n
    → (square_at k q).orientation ≡ 2 * (threes n (q % 4 ^ k) % 2) + (ones (q % 4 ^ k) + k + q / 4 ^ k) % 2
unfolding square_at whole_face quarter ones
counted zero n q h =
    let e : q % 4 ^ 0 ≡ 0 = omega arith in
    let none : threes n (q % 4 ^ 0) ≡ 0 = ap (threes n) e ∙ ap (λ x. ones (bit_and x (lower_ones n))) (and_zero_l (0 / 2)) ∙ ap ones (and_zero_l (lower_ones n)) in
    let no_ones : ones (q % 4 ^ 0) ≡ 0 = ap ones e in
    omega arith
counted (suc k) zero q h = absurd (omega arith)
counted (suc k) (suc n) q h =
    let z = q / 4 in
    let d = q % 4 in
    let small : d < 4 = omega arith in
    let u = z % 4 ^ k in
    let o = (square_at k z).orientation in
    let up : o ≡ 2 * (threes n u % 2) + (ones u + k + z / 4 ^ k) % 2 = counted k n z (omega arith) in
    let same : q % 4 ^ suc k ≡ u * 4 + d = ap (λ x. q % x) (four_step k) ∙ last_positions q (4 ^ k) (four_pos k) in
    let more : threes (suc n) (q % 4 ^ suc k) ≡ threes n u + d / 3 = ap (threes (suc n)) same ∙ threes_more n u d small ∙ ap (λ x. threes n u + x) (three_ones d (u % 2) small (omega arith)) in
    let ones_are : ones (q % 4 ^ suc k) ≡ ones u + ones d = ap ones same ∙ ones_cat 2 u d small in
    let face : z / 4 ^ k ≡ q / 4 ^ suc k = div-div-eq-div-mul q 4 (4 ^ k) ∙ ap (λ x. q / x) (sym (four_step k)) in
    turned_is o d (omega arith) small ∙ whole o (threes n u) (ones u + k + z / 4 ^ k) (d / 3) (ones d) up ∙ ap₂ (λ x y. 2 * (x % 2) + y % 2) (sym more) (let e : ones u + k + z / 4 ^ k + ones d + 1 ≡ ones (q % 4 ^ suc k) + suc k + q / 4 ^ suc k = omega arith in e)
  where
    whole : (o a b t w : ℕ) → o ≡ 2 * (a % 2) + b % 2 → 2 * ((o / 2 + t) % 2) + (o % 2 + w + 1) % 2 ≡ 2 * ((a + t) % 2) + (b + w + 1) % 2
    whole o a b t w e = omega arith

-- as the code counts it
pub row_counted : (level place positions face : ℕ) → level ≤ 30 → positions ≡ place % (1 * 2 ^ (2 * level) % 2 ^ 64)
    → face ≡ place / 2 ^ (2 * level)
    → 512 * (ones (bit_and (bit_and positions (positions / 2)) 6148914691236517205) % 2) + 256 * ((ones positions + level + face) % 2)
    ≡ 256 * (square_at level place).orientation
row_counted level place positions face h ep ef =
    let bits = four_pow level in
    let one = one_shl (2 * level) 64 (omega arith) in
    let width : 1 * 2 ^ (2 * level) % 2 ^ 64 ≡ 4 ^ level = one ∙ bits in
    let own : positions ≡ place % 4 ^ level = ep ∙ ap (λ x. place % x) width in
    let on_face : face ≡ place / 4 ^ level = ef ∙ ap (λ x. place / x) bits in
    let is = counted level 32 place (omega arith) in
    let a : threes 32 (place % 4 ^ level) ≡ threes 32 positions = ap (threes 32) (sym own) in
    let b : ones (place % 4 ^ level) ≡ ones positions = ap ones (sym own) in
    whole (square_at level place).orientation (threes 32 positions) (ones positions + level + face) (is ∙ ap₂ (λ x y. 2 * (x % 2) + y % 2) a (let e : ones (place % 4 ^ level) + level + place / 4 ^ level ≡ ones positions + level + face = omega arith in e))
  where
    whole : (o a b : ℕ) → o ≡ 2 * (a % 2) + b % 2 → 512 * (a % 2) + 256 * (b % 2) ≡ 256 * o
    whole o a b e = omega arith

-- the sum that the code takes
pub sum_fits : (level place width face : ℕ) → level ≤ 30 → place < 6 * 4 ^ level → ones (place % width) + level + place / face < 2 ^ 64
sum_fits level place width face hl hp =
    let most : 4 ^ level ≤ 4 ^ 30 = pow-le-pow_right {n = 4} (omega arith) {i = level} {j = 30} hl in
    let few = ones_le_self (place % width) in
    let less = mod-le place width in
    let quotient = div-le_self place face in
    omega arith
