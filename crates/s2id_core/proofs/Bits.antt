-- What the code computes of a number's bits: the level, the lowest 1, and places.
use Rattle.std.proofs.Common.{◌≡◌, ℕ, zero, suc, ◌+◌, ◌-◌, ◌*◌, ◌/◌, ◌%◌, ◌^◌, ◌<◌, ◌≤◌, inl, inr, length, sym, ◌∙◌, ap, ap₂, refl, arith, subst}
use Rattle.std.specs.Int.{w64, trailing_zeros}
use Rattle.std.proofs.Math.Nat.{le-mul_of_pos_right}
use Rattle.std.proofs.lemmas.Bool.{cases_lt}
use Rattle.std.proofs.lemmas.Nat.{one_shl, shr-shr}
use Rattle.s2id_core.specs.Path.{Path, place_of, path_at, ancestor}
use Rattle.s2id_core.specs.Cell.{IsCellNumber}
use Rattle.s2id_core.proofs.Powers.{four_pow, four_step, four_pos, four_split, odd_below}
use Rattle.s2id_core.proofs.Places.{number_by_place, length-last_digits}
use Rattle.s2id_core.proofs.Numbers.{zeros_by_place, place_by_place, path_by_place, place_of-path_of_place, number-path_at, path_of_cell, place_below}
use Rattle.s2id_core.proofs.Levels.{place_of-ancestor, length-ancestor, IsPath-ancestor}

-- a cell's number by its path
pub number_form : (n : ℕ) → IsCellNumber n → n ≡ (2 * place_of (path_at n) + 1) * 4 ^ (30 - length (path_at n).digits)
number_form n cell = sym cell.2 ∙ number_by_place (path_at n) (path_of_cell n cell).at_most

pub face_by_bits : (n : ℕ) → n / 2 ^ 61 ≡ (path_at n).face
unfolding path_at
face_by_bits n = refl

pub zeros_by_level : (n : ℕ) → IsCellNumber n → trailing_zeros w64 n ≡ 2 * (30 - length (path_at n).digits)
zeros_by_level n cell = zeros_by_place (place_of (path_at n)) (30 - length (path_at n).digits) n (omega arith) (number_form n cell)

pub lowest_by_bits : (n : ℕ) → IsCellNumber n → 1 * 2 ^ trailing_zeros w64 n % 2 ^ 64 ≡ 4 ^ (30 - length (path_at n).digits)
lowest_by_bits n cell =
    let zeros = zeros_by_level n cell in
    one_shl (trailing_zeros w64 n) 64 (omega arith) ∙ ap (λ x. 2 ^ x) zeros ∙ four_pow (30 - length (path_at n).digits)

-- ---- leaves are odd

even_width : (m h : ℕ) → 0 < h → (2 * m + 1) * 4 ^ h % 2 ≡ 0
even_width m zero h = absurd (omega arith)
even_width m (suc h) _ = ap (λ x. (2 * m + 1) * x % 2) (four_step h) ∙ even (2 * m + 1) (4 ^ h)
  where
    even : (a b : ℕ) → a * (4 * b) % 2 ≡ 0
    even a b = let e : a * (4 * b) ≡ 2 * (2 * (a * b)) = omega arith in omega arith

pub leaf_by_bit : (n : ℕ) → IsCellNumber n → n % 2 ≡ 1 → length (path_at n).digits ≡ 30
leaf_by_bit n cell odd =
    let most = (path_of_cell n cell).at_most in
    elim (cases_lt (length (path_at n).digits) 30) [ inl less ↦ absurd (let even = ap (λ x. x % 2) (number_form n cell) ∙ even_width (place_of (path_at n)) (30 - length (path_at n).digits) (omega arith) in omega arith) | inr h ↦ omega arith ]

pub bit_by_leaf : (n : ℕ) → IsCellNumber n → length (path_at n).digits ≡ 30 → n % 2 ≡ 1
bit_by_leaf n cell deep =
    let form : n ≡ (2 * place_of (path_at n) + 1) * 1 = number_form n cell ∙ ap (λ x. (2 * place_of (path_at n) + 1) * 4 ^ x) (let e : 30 - length (path_at n).digits ≡ 0 = omega arith in e) in
    omega arith

-- ---- places

pub place_by_bits : (n k : ℕ) → IsCellNumber n → k ≤ length (path_at n).digits → n / 2 ^ (61 - 2 * k) ≡ place_of (ancestor k (path_at n))
place_by_bits n k cell h =
    let p = path_at n in
    let l = length p.digits in
    let path = path_of_cell n cell in
    let most = path.at_most in
    ap (λ x. n / 2 ^ x) (let e : 61 - 2 * k ≡ 2 * (30 - l) + 1 + 2 * (l - k) = omega arith in e) ∙ sym (shr-shr n (2 * (30 - l) + 1) (2 * (l - k))) ∙ ap₂ (λ x y. x / y) (place_by_place (place_of p) (30 - l) n (number_form n cell)) (four_pow (l - k)) ∙ sym (place_of-ancestor k p path h)

pub place_at_bound : (n k : ℕ) → IsCellNumber n → k ≤ length (path_at n).digits → place_of (ancestor k (path_at n)) < 6 * 4 ^ k
place_at_bound n k cell h =
    let path = IsPath-ancestor k (path_at n) (path_of_cell n cell) h in
    subst (λ x. place_of (ancestor k (path_at n)) < 6 * 4 ^ x) (length-ancestor k (path_at n) h) (place_below (ancestor k (path_at n)) path)

-- a bound on places that no level passes
pub places_fit : (k m : ℕ) → k ≤ 30 → m < 6 * 4 ^ k → m < 6 * 2 ^ 60
places_fit k m h below =
    let split = four_split 30 k h in
    let pos = four_pos (30 - k) in
    let wide = odd_below m (4 ^ k) (4 ^ (30 - k)) below pos in
    let grow : 2 * m + 1 ≤ (2 * m + 1) * 4 ^ (30 - k) = le-mul_of_pos_right (2 * m + 1) pos in
    omega arith

pub shifted_place : (k m : ℕ) → k ≤ 30 → m < 6 * 4 ^ k → (2 * m + 1) * 2 ^ (60 - 2 * k) % 2 ^ 64 ≡ (2 * m + 1) * 4 ^ (30 - k)
shifted_place k m h below =
    let same : (2 * m + 1) * 2 ^ (60 - 2 * k) ≡ (2 * m + 1) * 4 ^ (30 - k) = ap (λ x. (2 * m + 1) * x) (ap (λ x. 2 ^ x) (let e : 60 - 2 * k ≡ 2 * (30 - k) = omega arith in e) ∙ four_pow (30 - k)) in
    let split = four_split 30 k h in
    let wide = odd_below m (4 ^ k) (4 ^ (30 - k)) below (four_pos (30 - k)) in
    let small : (2 * m + 1) * 4 ^ (30 - k) < 2 ^ 64 = omega arith in
    ap (λ x. x % 2 ^ 64) same ∙ (omega arith)

pub cell_at_place : (k m n : ℕ) → k ≤ 30 → m < 6 * 4 ^ k → n ≡ (2 * m + 1) * 4 ^ (30 - k) → IsCellNumber n
cell_at_place k m n h below e =
    let split = four_split 30 k h in
    let pos = four_pos (30 - k) in
    let wide = odd_below m (4 ^ k) (4 ^ (30 - k)) below pos in
    (omega arith, omega arith, number-path_at m (30 - k) n (omega arith) e)

pub level_at_place : (k m n : ℕ) → k ≤ 30 → n ≡ (2 * m + 1) * 4 ^ (30 - k) → length (path_at n).digits ≡ k
level_at_place k m n h e =
    ap (λ (p : Path). length p.digits) (path_by_place m (30 - k) n (omega arith) e) ∙ length-last_digits (30 - (30 - k)) m ∙ (let s : 30 - (30 - k) ≡ k = omega arith in s)

pub place_at_place : (k m n : ℕ) → k ≤ 30 → n ≡ (2 * m + 1) * 4 ^ (30 - k) → place_of (path_at n) ≡ m
place_at_place k m n h e = ap place_of (path_by_place m (30 - k) n (omega arith) e) ∙ place_of-path_of_place (30 - (30 - k)) m
