-- Powers of 2 and 4, and the digits of a number.
use Rattle.std.proofs.Common.{◌≡◌, ℕ, zero, suc, ◌+◌, ◌-◌, ◌*◌, ◌/◌, ◌%◌, ◌^◌, ◌<◌, ◌≤◌, inl, inr, sym, ◌∙◌, ap, refl, arith}
use Rattle.std.proofs.Math.Nat.{pow-suc, mul-le-mul_left, mul-le-mul_right}
use Rattle.std.proofs.lemmas.Bool.{cases_lt}
use Rattle.std.proofs.lemmas.Nat.{pow_pos, pow_below, pow-add, mod-mul-add, div-add-mod'}

pub two_step : (k : ℕ) → 2 ^ suc k ≡ 2 * 2 ^ k
two_step k = let e = pow-suc 2 k in omega arith

pub four_step : (k : ℕ) → 4 ^ suc k ≡ 4 * 4 ^ k
four_step k = let e = pow-suc 4 k in omega arith

pub four_pow : (k : ℕ) → 2 ^ (2 * k) ≡ 4 ^ k
four_pow zero = refl
four_pow (suc k) =
    let e : 2 * suc k ≡ suc (suc (2 * k)) = omega arith in
    ap (λ x. 2 ^ x) e ∙ two_step (suc (2 * k)) ∙ ap (λ x. 2 * x) (two_step (2 * k)) ∙ ap (λ x. 2 * (2 * x)) (four_pow k) ∙ times (4 ^ k) ∙ sym (four_step k)
  where
    times : (x : ℕ) → 2 * (2 * x) ≡ 4 * x
    times x = omega arith

-- 2 ^ (2 * k + 1), as the code shifts
pub four_pow_odd : (k : ℕ) → 2 ^ (2 * k + 1) ≡ 2 * 4 ^ k
four_pow_odd k =
    let e : 2 * k + 1 ≡ suc (2 * k) = omega arith in
    ap (λ x. 2 ^ x) e ∙ two_step (2 * k) ∙ ap (λ x. 2 * x) (four_pow k)

pub four_pos : (k : ℕ) → 0 < 4 ^ k
four_pos k = let h = pow_pos (2 * k) in let e = four_pow k in omega arith

pub four_add : (j k : ℕ) → 4 ^ (j + k) ≡ 4 ^ j * 4 ^ k
four_add j k = pow-add 4 j k

-- 4 ^ k * 4 ^ (n - k)
pub four_split : (n k : ℕ) → k ≤ n → 4 ^ k * 4 ^ (n - k) ≡ 4 ^ n
four_split n k h = sym (pow-add 4 k (n - k)) ∙ ap (λ x. 4 ^ x) (omega arith)

-- a number below 4 times b, if it is d times b and less than b
pub digit_below : (d v b : ℕ) → d < 4 → v < b → d * b + v < 4 * b
digit_below d v b h s = grind arith

by_four : (q b : ℕ) → q ≡ (q / b / 4) * (4 * b) + ((q / b % 4) * b + q % b)
by_four q b =
    let x = q / b in
    let e : x ≡ 4 * (x / 4) + x % 4 = omega arith in
    sym (div-add-mod' q b) ∙ ap (λ y. y * b + q % b) e ∙ regroup (x / 4) (x % 4) b (q % b)
  where
    regroup : (a d b v : ℕ) → (4 * a + d) * b + v ≡ a * (4 * b) + (d * b + v)
    regroup a d b v = omega arith

-- one more digit at the front
pub mod_more : (q b : ℕ) → 0 < b → (q / b % 4) * b + q % b ≡ q % (4 * b)
mod_more q b h =
    let low : q % b < b = omega arith in
    let digit : q / b % 4 < 4 = omega arith in
    let rest : (q / b % 4) * b + q % b < 4 * b = digit_below (q / b % 4) (q % b) b digit low in
    sym (mod-mul-add (q / b / 4) (4 * b) ((q / b % 4) * b + q % b) rest) ∙ ap (λ x. x % (4 * b)) (sym (by_four q b))

-- an odd multiple of b below 12 * a of them
pub odd_below : (q a b : ℕ) → q < 6 * a → 0 < b → (2 * q + 1) * b < 12 * (a * b)
odd_below q a b h pos =
    let le : 2 * q + 2 ≤ 12 * a = omega arith in
    let wide : b * (2 * q + 2) ≤ b * (12 * a) = mul-le-mul_left b le in
    omega arith

-- ---- products with one factor in common

pub lt_of_mul : (a b w : ℕ) → a * w < b * w → a < b
lt_of_mul a b w h = elim (cases_lt a b) [ inl lt ↦ lt | inr le ↦ absurd (let wide : b * w ≤ a * w = mul-le-mul_right w le in omega arith) ]

pub four_below : (i j : ℕ) → i < j → 4 ^ i < 4 ^ j
four_below i j h =
    let two = pow_below (2 * i) (2 * j) (omega arith) in
    let at_i = four_pow i in
    let at_j = four_pow j in
    omega arith

-- a level is the finer if its width is the smaller
pub level_from_width : (j k : ℕ) → j ≤ 30 → k ≤ 30 → 4 ^ (30 - k) ≤ 4 ^ (30 - j) → j ≤ k
level_from_width j k hj hk h = elim (cases_lt k j) [ inl lt ↦ absurd (let less = four_below (30 - j) (30 - k) (omega arith) in omega arith) | inr le ↦ le ]

-- the width of a level by that of a finer one
pub width_split : (j k : ℕ) → j ≤ k → k ≤ 30 → 4 ^ (30 - j) ≡ 4 ^ (k - j) * 4 ^ (30 - k)
width_split j k hj hk = ap (λ x. 4 ^ x) (let e : 30 - j ≡ k - j + (30 - k) = omega arith in e) ∙ four_add (k - j) (30 - k)

-- place q has d places of width w in it, and place p is one of them
pub span_inside : (q p d w v : ℕ) → v ≡ d * w → q * d ≤ p → p < q * d + d → (q * v ≤ p * w) × (p * w + w ≤ q * v + v)
span_inside q p d w v e from to =
    let low : q * d * w ≤ p * w = mul-le-mul_right w from in
    let high : (p + 1) * w ≤ (q * d + d) * w = mul-le-mul_right w (omega arith) in
    let qv : q * v ≡ q * d * w = ap (λ x. q * x) e ∙ turn q d w in
    (omega arith, omega arith)
  where
    turn : (a b c : ℕ) → a * (b * c) ≡ a * b * c
    turn a b c = omega arith

pub inside_from_crossing : (q p d w v : ℕ) → v ≡ d * w → p * w < q * v + v → q * v < p * w + w → (q * d ≤ p) × (p < q * d + d)
inside_from_crossing q p d w v e low high =
    let qv : q * v ≡ q * d * w = ap (λ x. q * x) e ∙ turn q d w in
    let from = lt_of_mul (q * d) (p + 1) w (omega arith) in
    let to = lt_of_mul p (q * d + d) w (omega arith) in
    (omega arith, to)
  where
    turn : (a b c : ℕ) → a * (b * c) ≡ a * b * c
    turn a b c = omega arith

-- no whole number of widths lies strictly within one of them
pub none_inside : (a x w : ℕ) → a * w < x * w → x * w < a * w + w → ⊥
none_inside a x w low high =
    let from = lt_of_mul a x w low in
    let to = lt_of_mul x (a + 1) w (omega arith) in
    omega arith
