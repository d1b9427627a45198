-- The zeros at the end of a number in binary.
use Rattle.std.proofs.Common.{◌≡◌, ℕ, zero, suc, ◌+◌, ◌*◌, ◌/◌, ◌%◌, ◌^◌, ◌<◌, sym, ◌∙◌, ap, refl, arith}
use Rattle.std.specs.Int.Count.{count_trailing_zeros}
use Rattle.s2id_core.proofs.Powers.{two_step}
use lib.Count.{under}

pub times_double : (a b : ℕ) → a * (2 * b) ≡ 2 * (a * b)
times_double a b = omega arith

-- (2 * m + 1) * 2 ^ t has t zeros at its end
pub zeros_of : (w t m n : ℕ) → t < w → n ≡ (2 * m + 1) * 2 ^ t → count_trailing_zeros w n ≡ t
unfolding count_trailing_zeros
zeros_of zero t m n h e = absurd (omega arith)
zeros_of (suc w) zero m n h e =
    let r : n % 2 ≡ 1 = omega arith in ap (λ x. under x (count_trailing_zeros w (n / 2))) r
zeros_of (suc w) (suc t) m n h e =
    let f : n ≡ 2 * ((2 * m + 1) * 2 ^ t) = e ∙ ap (λ x. (2 * m + 1) * x) (two_step t) ∙ times_double (2 * m + 1) (2 ^ t) in
    let r : n % 2 ≡ 0 = omega arith in
    let q : n / 2 ≡ (2 * m + 1) * 2 ^ t = omega arith in
    let d : t < w = omega arith in
    ap (λ x. under x (count_trailing_zeros w (n / 2))) r ∙ ap suc (zeros_of w t m (n / 2) d q)

-- a number above 0 is (2 * half + 1) * 2 ^ t, where t zeros stand at its end
pub record OddPart (w n : ℕ) : Type 0 where
  pub half : ℕ
  pub is : n ≡ (2 * half + 1) * 2 ^ count_trailing_zeros w n
  pub within : count_trailing_zeros w n < w

doubled : (n half t : ℕ) → n % 2 ≡ 0 → n / 2 ≡ (2 * half + 1) * 2 ^ t → n ≡ (2 * half + 1) * 2 ^ suc t
doubled n half t e is =
    let whole : n ≡ 2 * ((2 * half + 1) * 2 ^ t) = omega arith in
    whole ∙ sym (times_double (2 * half + 1) (2 ^ t)) ∙ ap (λ x. (2 * half + 1) * x) (sym (two_step t))

odd : (n : ℕ) → n % 2 ≡ 1 → n ≡ (2 * (n / 2) + 1) * 2 ^ 0
odd n e = omega arith

pub odd_part : (w n : ℕ) → 0 < n → n < 2 ^ w → OddPart w n
unfolding count_trailing_zeros
odd_part zero n p h = absurd (omega arith)
odd_part (suc w) n p h = go (n % 2) refl (λ a b. odd_part w (n / 2) a b)
  where
    go : (r : ℕ) → n % 2 ≡ r → (0 < n / 2 → n / 2 < 2 ^ w → OddPart w (n / 2)) → OddPart (suc w) n
    go zero e halved =
        let two = two_step w in
        let before = halved (omega arith) (omega arith) in
        let t : count_trailing_zeros (suc w) n ≡ suc (count_trailing_zeros w (n / 2)) = ap (λ x. under x (count_trailing_zeros w (n / 2))) e in
        record {
          half = before.half;
          is = doubled n before.half (count_trailing_zeros w (n / 2)) e before.is ∙ ap (λ x. (2 * before.half + 1) * 2 ^ x) (sym t);
          within = let b = before.within in omega arith;
        }
    go (suc zero) e halved =
        let t : count_trailing_zeros (suc w) n ≡ 0 = ap (λ x. under x (count_trailing_zeros w (n / 2))) e in
        record {
          half = n / 2;
          is = odd n e ∙ ap (λ x. (2 * (n / 2) + 1) * 2 ^ x) (sym t);
          within = omega arith;
        }
    go (suc (suc r)) e halved = absurd (omega arith)
