-- A path's number by its place among the cells of its level.
use Rattle.std.proofs.Common.{◌≡◌, ℕ, zero, suc, ◌+◌, ◌-◌, ◌*◌, ◌/◌, ◌%◌, ◌^◌, ◌<◌, ◌≤◌, List, [], ◌∷◌, length, All, sym, ◌∙◌, ap, ap₂, refl, arith}
use Rattle.std.proofs.lemmas.List.Elements.{All-nil, All-cons, All-head, All-tail}
use Rattle.std.proofs.lemmas.Nat.{mod-mul-add, div-mul-add}
use Rattle.s2id_core.specs.Path.{Path, digits_from, number_of, base_four, place_of, last_digits}
use Rattle.s2id_core.proofs.Powers.{four_step, four_pow_odd, four_pos, four_add, four_split, digit_below, mod_more}

-- the digits' part of the sum, from 2 ^ (2 * n - 1) down if n is at least the number of digits
pub digits_from_is : (ds : List ℕ) (r k : ℕ) → k ≡ 2 * (length ds + r) - 1 → digits_from k ds ≡ 2 * base_four ds * 4 ^ r
unfolding digits_from base_four
digits_from_is [] r k e = omega arith
digits_from_is (d ∷ ds) r k e =
    let rest = digits_from_is ds r (k - 2) (omega arith) in
    let top : 2 ^ k ≡ 2 * (4 ^ length ds * 4 ^ r) = ap (λ x. 2 ^ x) (kk (length ds) r k e) ∙ four_pow_odd (length ds + r) ∙ ap (λ x. 2 * x) (four_add (length ds) r) in
    ap₂ (λ x y. d * x + y) top rest ∙ regroup d (4 ^ length ds) (4 ^ r) (base_four ds)
  where
    kk : (l r k : ℕ) → k ≡ 2 * (suc l + r) - 1 → k ≡ 2 * (l + r) + 1
    kk l r k e = omega arith

    regroup : (d a b v : ℕ) → d * (2 * (a * b)) + 2 * v * b ≡ 2 * (d * a + v) * b
    regroup d a b v = omega arith

-- a path's number by its place
pub number_by_place : (p : Path) → length p.digits ≤ 30 → number_of p ≡ (2 * place_of p + 1) * 4 ^ (30 - length p.digits)
unfolding number_of place_of
number_by_place p h =
    let r = 30 - length p.digits in
    let mid : digits_from 59 p.digits ≡ 2 * base_four p.digits * 4 ^ r = digits_from_is p.digits r 59 (omega arith) in
    let face : p.face * 2 ^ 61 ≡ p.face * (2 * (4 ^ length p.digits * 4 ^ r)) = ap (λ x. p.face * (2 * x)) (sym (four_split 30 (length p.digits) h)) in
    ap₂ (λ x y. x + y + 4 ^ r) face mid ∙ regroup p.face (4 ^ length p.digits) (4 ^ r) (base_four p.digits)
  where
    regroup : (f a b v : ℕ) → f * (2 * (a * b)) + 2 * v * b + b ≡ (2 * (f * a + v) + 1) * b
    regroup f a b v = omega arith

-- ---- the digits of a place

pub length-last_digits : (k q : ℕ) → length (last_digits k q) ≡ k
unfolding last_digits
length-last_digits zero q = refl
length-last_digits (suc k) q = ap suc (length-last_digits k q)

pub last_digits_below : (k q : ℕ) → All (λ d. d < 4) (last_digits k q)
unfolding last_digits
last_digits_below zero q = All-nil (λ d. d < 4)
last_digits_below (suc k) q = All-cons (λ d. d < 4) (q / 4 ^ k % 4) (last_digits k q) (omega arith) (last_digits_below k q)

pub base_four-last_digits : (k q : ℕ) → base_four (last_digits k q) ≡ q % 4 ^ k
unfolding last_digits base_four
base_four-last_digits zero q = omega arith
base_four-last_digits (suc k) q =
    ap₂ (λ x y. (q / 4 ^ k % 4) * 4 ^ x + y) (length-last_digits k q) (base_four-last_digits k q) ∙ mod_more q (4 ^ k) (four_pos k) ∙ ap (λ x. q % x) (sym (four_step k))

pub base_four_below : (ds : List ℕ) → All (λ d. d < 4) ds → base_four ds < 4 ^ length ds
unfolding base_four
base_four_below [] h = omega arith
base_four_below (d ∷ ds) h =
    let head : d < 4 = All-head (λ d. d < 4) d ds h in
    let tail = base_four_below ds (All-tail (λ d. d < 4) d ds h) in
    let step = four_step (length ds) in
    let below = digit_below d (base_four ds) (4 ^ length ds) head tail in
    omega arith

pub last_digits-base_four : (ds : List ℕ) (q : ℕ) → All (λ d. d < 4) ds → last_digits (length ds) (q * 4 ^ length ds + base_four ds) ≡ ds
unfolding last_digits base_four
last_digits-base_four [] q h = refl
last_digits-base_four (d ∷ ds) q h =
    let b = 4 ^ length ds in
    let head : d < 4 = All-head (λ d. d < 4) d ds h in
    let tail = All-tail (λ d. d < 4) d ds h in
    let low : base_four ds < b = base_four_below ds tail in
    let whole : q * 4 ^ suc (length ds) + (d * b + base_four ds) ≡ (q * 4 + d) * b + base_four ds = ap (λ x. q * x + (d * b + base_four ds)) (four_step (length ds)) ∙ regroup q d b (base_four ds) in
    let digit : ((q * 4 + d) * b + base_four ds) / b % 4 ≡ d = ap (λ x. x % 4) (div-mul-add (q * 4 + d) b (base_four ds) low) ∙ mod-mul-add q 4 d head in
    ap (λ x. x / b % 4 ∷ last_digits (length ds) x) whole ∙ ap₂ (λ x y. x ∷ y) digit (last_digits-base_four ds (q * 4 + d) tail)
  where
    regroup : (q d b v : ℕ) → q * (4 * b) + (d * b + v) ≡ (q * 4 + d) * b + v
    regroup q d b v = omega arith
