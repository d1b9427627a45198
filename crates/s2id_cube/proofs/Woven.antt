-- Bytes of four bits of i and four of j.
use Rattle.std.proofs.Common.{◌≡◌, ℕ, ◌+◌, ◌-◌, ◌*◌, ◌/◌, ◌%◌, ◌^◌, ◌<◌, bit_and, sym, ◌∙◌, ap, ap₂, arith}
use Rattle.std.proofs.lemmas.Nat.{and_block, and_mask}
use Rattle.s2id_cube.specs.Loops.{AreWoven}
use Rattle.s2id_cube.proofs.Cases.{four}

-- four bits of each byte, the lower ones
lower_byte : (x mask rest : ℕ) → bit_and (x / 256) mask ≡ rest → bit_and x (mask * 2 ^ 8 + 15) ≡ rest * 256 + x % 16
lower_byte x mask rest h =
    ap (λ y. bit_and y (mask * 2 ^ 8 + 15)) (let e : x ≡ x / 256 * 2 ^ 8 + x % 256 = omega arith in e) ∙ and_block 8 (x / 256) mask (x % 256) 15 (omega arith) (omega arith) ∙ ap₂ (λ y z. y * 256 + z) h (and_mask (x % 256) 4 ∙ (let e : x % 256 % 16 ≡ x % 16 = omega arith in e))

-- the lower halves of the bytes, and the upper ones
abbrev lowers : ℕ → ℕ
lowers x = ((x / 2 ^ 24 % 16 * 256 + x / 2 ^ 16 % 16) * 256 + x / 2 ^ 8 % 16) * 256 + x % 16

abbrev uppers : ℕ → ℕ
uppers x = ((x / 2 ^ 28 % 16 * 256 + x / 2 ^ 20 % 16) * 256 + x / 2 ^ 12 % 16) * 256 + x / 2 ^ 4 % 16

pub lower_bits : (x : ℕ) → x < 2 ^ 32 → bit_and x 0x0f0f0f0f ≡ lowers x
lower_bits x h =
    let x3 = x / 256 / 256 / 256 in
    let b3 : bit_and x3 15 ≡ x3 % 16 = and_mask x3 4 in
    let b2 = lower_byte (x / 256 / 256) 15 (x3 % 16) b3 in
    let b1 = lower_byte (x / 256) 0x0f0f _ b2 in
    let b0 = lower_byte x 0x0f0f0f _ b1 in
    b0 ∙ (let e : ((x3 % 16 * 256 + x / 256 / 256 % 16) * 256 + x / 256 % 16) * 256 + x % 16 ≡ lowers x = omega arith in e)

upper_sum : (x x1 x2 x3 h3 h2 h1 h0 l3 l2 l1 l0 : ℕ) → x3 ≡ 16 * h3 + l3 → x2 ≡ 256 * x3 + (16 * h2 + l2) → x1 ≡ 256 * x2 + (16 * h1 + l1)
    → x ≡ 256 * x1 + (16 * h0 + l0) → x ≡ 16 * (((h3 * 256 + h2) * 256 + h1) * 256 + h0) + (((l3 * 256 + l2) * 256 + l1) * 256 + l0)
upper_sum x x1 x2 x3 h3 h2 h1 h0 l3 l2 l1 l0 e3 e2 e1 e0 = omega arith

halves : (x : ℕ) → x < 2 ^ 32 → x ≡ 16 * uppers x + lowers x
halves x h =
    let e3 : x / 2 ^ 24 ≡ 16 * (x / 2 ^ 28 % 16) + x / 2 ^ 24 % 16 = omega arith in
    let e2 : x / 2 ^ 16 ≡ 256 * (x / 2 ^ 24) + (16 * (x / 2 ^ 20 % 16) + x / 2 ^ 16 % 16) = omega arith in
    let e1 : x / 2 ^ 8 ≡ 256 * (x / 2 ^ 16) + (16 * (x / 2 ^ 12 % 16) + x / 2 ^ 8 % 16) = omega arith in
    let e0 : x ≡ 256 * (x / 2 ^ 8) + (16 * (x / 2 ^ 4 % 16) + x % 16) = omega arith in
    upper_sum x (x / 2 ^ 8) (x / 2 ^ 16) (x / 2 ^ 24) _ _ _ _ _ _ _ _ e3 e2 e1 e0

-- a byte of a word of four
word_bytes : (a b c d : ℕ) → a < 256 → b < 256 → c < 256 → d < 256 → (w : ℕ) → w ≡ ((a * 256 + b) * 256 + c) * 256 + d
    → (w * 256 ^ 0 % 2 ^ 32 / 2 ^ 24 ≡ a) × (w * 256 ^ 1 % 2 ^ 32 / 2 ^ 24 ≡ b) × (w * 256 ^ 2 % 2 ^ 32 / 2 ^ 24 ≡ c) × (w * 256 ^ 3 % 2 ^ 32 / 2 ^ 24 ≡ d)
word_bytes a b c d ha hb hc hd w e = (omega arith, omega arith, omega arith, omega arith)

pair_sum : (a3 a2 a1 a0 b3 b2 b1 b0 : ℕ)
    → 16 * (((a3 * 256 + a2) * 256 + a1) * 256 + a0) + (((b3 * 256 + b2) * 256 + b1) * 256 + b0) ≡ (((16 * a3 + b3) * 256 + (16 * a2 + b2)) * 256 + (16 * a1 + b1)) * 256 + (16 * a0 + b0)
pair_sum a3 a2 a1 a0 b3 b2 b1 b0 = omega arith

fits_word : (a3 a2 a1 a0 : ℕ) → a3 < 16 → a2 < 16 → a1 < 16 → a0 < 16 → (((a3 * 256 + a2) * 256 + a1) * 256 + a0) * 2 ^ 4 < 2 ^ 32
fits_word a3 a2 a1 a0 h3 h2 h1 h0 = omega arith

upper_word : (i j li lj ui uj upper : ℕ) → i ≡ 16 * ui + li → j ≡ 16 * uj + lj → upper ≡ i - li + (j - lj) / 2 ^ 4 → upper ≡ 16 * ui + uj
upper_word i j li lj ui uj upper ei ej e = omega arith

lower_word : (ai aj li lj lower : ℕ) → ai ≡ li → aj ≡ lj → li * 2 ^ 4 < 2 ^ 32 → lower ≡ ai * 2 ^ 4 % 2 ^ 32 + aj → lower ≡ 16 * li + lj
lower_word ai aj li lj lower ei ej small e = omega arith

pub woven_is : (i j upper lower : ℕ) → i < 2 ^ 32 → j < 2 ^ 32 → upper ≡ i - bit_and i 0x0f0f0f0f + (j - bit_and j 0x0f0f0f0f) / 2 ^ 4
    → lower ≡ bit_and i 0x0f0f0f0f * 2 ^ 4 % 2 ^ 32 + bit_and j 0x0f0f0f0f → AreWoven i j upper lower
woven_is i j upper lower hi hj eu el =
    let li = lower_bits i hi in
    let lj = lower_bits j hj in
    let whole_i : i ≡ 16 * uppers i + bit_and i 0x0f0f0f0f = halves i hi ∙ ap (λ x. 16 * uppers i + x) (sym li) in
    let whole_j : j ≡ 16 * uppers j + bit_and j 0x0f0f0f0f = halves j hj ∙ ap (λ x. 16 * uppers j + x) (sym lj) in
    let up = upper_word i j (bit_and i 0x0f0f0f0f) (bit_and j 0x0f0f0f0f) (uppers i) (uppers j) upper whole_i whole_j eu ∙ pair_sum (i / 2 ^ 28 % 16) (i / 2 ^ 20 % 16) (i / 2 ^ 12 % 16) (i / 2 ^ 4 % 16) (j / 2 ^ 28 % 16) (j / 2 ^ 20 % 16) (j / 2 ^ 12 % 16) (j / 2 ^ 4 % 16) in
    let small = fits_word (i / 2 ^ 24 % 16) (i / 2 ^ 16 % 16) (i / 2 ^ 8 % 16) (i % 16) (omega arith) (omega arith) (omega arith) (omega arith) in
    let low = lower_word (bit_and i 0x0f0f0f0f) (bit_and j 0x0f0f0f0f) (lowers i) (lowers j) lower li lj small el ∙ pair_sum (i / 2 ^ 24 % 16) (i / 2 ^ 16 % 16) (i / 2 ^ 8 % 16) (i % 16) (j / 2 ^ 24 % 16) (j / 2 ^ 16 % 16) (j / 2 ^ 8 % 16) (j % 16) in
    let us = word_bytes (16 * (i / 2 ^ 28 % 16) + j / 2 ^ 28 % 16) (16 * (i / 2 ^ 20 % 16) + j / 2 ^ 20 % 16) (16 * (i / 2 ^ 12 % 16) + j / 2 ^ 12 % 16) (16 * (i / 2 ^ 4 % 16) + j / 2 ^ 4 % 16) (omega arith) (omega arith) (omega arith) (omega arith) upper up in
    let ls = word_bytes (16 * (i / 2 ^ 24 % 16) + j / 2 ^ 24 % 16) (16 * (i / 2 ^ 16 % 16) + j / 2 ^ 16 % 16) (16 * (i / 2 ^ 8 % 16) + j / 2 ^ 8 % 16) (16 * (i % 16) + j % 16) (omega arith) (omega arith) (omega arith) (omega arith) lower low in
    let last : 16 * (i % 16) + j % 16 ≡ 16 * (i / 2 ^ 0 % 16) + j / 2 ^ 0 % 16 = omega arith in
    record {
      at_upper = four (λ k. upper * 256 ^ k % 2 ^ 32 / 2 ^ 24 ≡ 16 * (i / 2 ^ (28 - 8 * k) % 16) + j / 2 ^ (28 - 8 * k) % 16) (us.0, us.1, us.2, us.3);
      at_lower = four (λ k. lower * 256 ^ k % 2 ^ 32 / 2 ^ 24 ≡ 16 * (i / 2 ^ (24 - 8 * k) % 16) + j / 2 ^ (24 - 8 * k) % 16) (ls.0, ls.1, ls.2, ls.3 ∙ last);
    }
