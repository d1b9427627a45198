-- How many binary digits numbers have.
use Rattle.std.proofs.Common.{◌≡◌, ℕ, zero, suc, ◌+◌, ◌-◌, ◌/◌, ◌^◌, ◌<◌, ◌≤◌, inl, inr, ap, arith, refl}
use Rattle.std.proofs.Math.Nat.{pow-suc, one-le-pow}
use Rattle.std.proofs.lemmas.Bool.{cases_lt}
use Rattle.std.proofs.lemmas.Int.Digits.{length-digits_of_step}
use Rattle.s2id_core.specs.BinaryDigits.{binary_digits}

pub digits_step : (n : ℕ) → 0 < n → binary_digits n ≡ binary_digits (n / 2) + 1
unfolding binary_digits
digits_step n some = length-digits_of_step 2 n (omega arith) some

no_digits : binary_digits 0 ≡ 0
unfolding binary_digits
no_digits = refl

rise_by : (turns m n : ℕ) → n ≤ turns → m ≤ n → binary_digits m ≤ binary_digits n
rise_by zero m n few le = let e : m ≡ n = omega arith in omega (arith, ap binary_digits e)
rise_by (suc turns) m n few le =
    elim (cases_lt 0 m) [
      | inl some ↦
          omega (arith, digits_step m some, digits_step n (omega arith), rise_by turns (m / 2) (n / 2) (omega arith) (omega arith))
      | inr none ↦ let e : m ≡ 0 = omega arith in omega (arith, ap binary_digits e, no_digits)
    ]

-- a greater number has no fewer digits
pub digits_rise : (m n : ℕ) → m ≤ n → binary_digits m ≤ binary_digits n
digits_rise m n le = rise_by n m n (omega arith) le

-- a power of two has one digit more than what is below it
digits_of_power : (k : ℕ) → binary_digits (2 ^ k - 1) + 1 ≤ binary_digits (2 ^ k)
digits_of_power zero = omega (arith, digits_step 1 (omega arith))
digits_of_power (suc k) =
    let twice = pow-suc 2 k in
    let some = one-le-pow k 2 (omega arith) in
    let e : (2 ^ suc k - 1) / 2 ≡ 2 ^ k - 1 = omega arith in
    let f : 2 ^ suc k / 2 ≡ 2 ^ k = omega arith in
    omega (arith, digits_step (2 ^ suc k - 1) (omega arith), digits_step (2 ^ suc k) (omega arith), ap binary_digits e, ap binary_digits f, digits_of_power k)

-- a look that leaves a power of two costs one digit
pub digits_above : (k n : ℕ) → 2 ^ k ≤ n → binary_digits (2 ^ k - 1) + 1 ≤ binary_digits n
digits_above k n le = omega (arith, digits_of_power k, digits_rise (2 ^ k) n le)

-- what is below a power of two has as many digits as it has halves
pub digits_below : (k : ℕ) → binary_digits (2 ^ k - 1) ≡ k
digits_below zero = no_digits
digits_below (suc k) =
    let twice = pow-suc 2 k in
    let some = one-le-pow k 2 (omega arith) in
    let e : (2 ^ suc k - 1) / 2 ≡ 2 ^ k - 1 = omega arith in
    omega (arith, digits_step (2 ^ suc k - 1) (omega arith), ap binary_digits e, digits_below k)
