-- The greatest cell of a span of leaves, by zeros and width.
use Rattle.std.proofs.Common.{◌≡◌, ℕ, zero, suc, ◌+◌, ◌-◌, ◌*◌, ◌/◌, ◌%◌, ◌^◌, ◌<◌, ◌≤◌, inl, inr, length, sym, ◌∙◌, ap, refl, arith, subst}
use Rattle.std.specs.Int.{w64, trailing_zeros}
use Rattle.std.specs.Int.Count.{count_trailing_zeros}
use Rattle.std.specs.Prelude.{min}
use Rattle.std.proofs.Math.Nat.{mul-le-mul_right}
use Rattle.std.proofs.lemmas.Bool.{cases_lt}
use Rattle.std.proofs.lemmas.Nat.{pow-add, pow_pos, one_shl}
use Rattle.s2id_core.specs.Path.{Path, path_at, place_of}
use Rattle.s2id_core.specs.Cell.{IsCellNumber}
use Rattle.s2id_core.specs.Span.{first_at, end_at, leaf_end}
use Rattle.s2id_core.proofs.Powers.{two_step, four_pow, four_pow_odd, four_pos, four_below}
use Rattle.s2id_core.proofs.Zeros.{odd_part, times_double}
use Rattle.s2id_core.proofs.Places.{length-last_digits}
use Rattle.s2id_core.proofs.Numbers.{number-path_at, path_by_place}
use Rattle.s2id_core.proofs.Spans.{width, start}
use Rattle.s2id_core.proofs.Nested.{by_width}
use Rattle.s2id_union.specs.Loops.{IsGreatest}
use lib.Count.{under}

-- a multiple of 2 ^ j has j zeros at its end, or more
zeros_least : (w j k n : ℕ) → j ≤ w → n ≡ k * 2 ^ j → j ≤ count_trailing_zeros w n
unfolding count_trailing_zeros
zeros_least w zero k n h e = omega arith
zeros_least zero (suc j) k n h e = absurd (omega arith)
zeros_least (suc w) (suc j) k n h e =
    let f : n ≡ 2 * (k * 2 ^ j) = e ∙ ap (λ x. k * x) (two_step j) ∙ times_double k (2 ^ j) in
    let r : n % 2 ≡ 0 = omega arith in
    let q : n / 2 ≡ k * 2 ^ j = omega arith in
    let before = zeros_least w j k (n / 2) (omega arith) q in
    let t : count_trailing_zeros (suc w) n ≡ suc (count_trailing_zeros w (n / 2)) = ap (λ x. under x (count_trailing_zeros w (n / 2))) r in
    omega arith

-- and a number is a multiple of what its zeros say
pub record IsMultiple (n b : ℕ) : Type 0 where
  pub times : ℕ
  pub is : n ≡ times * b

multiple : (j n : ℕ) → n < 2 ^ 64 → j ≤ trailing_zeros w64 n → IsMultiple n (2 ^ j)
multiple j zero below h = record { times = 0; is = omega arith }
multiple j (suc n) below h =
    let o = odd_part 64 (suc n) (omega arith) below in
    let t = trailing_zeros w64 (suc n) in
    let r = t - j in
    record {
      times = (2 * o.half + 1) * 2 ^ r;
      is = o.is ∙ ap (λ x. (2 * o.half + 1) * 2 ^ x) (let e : t ≡ r + j = omega arith in e) ∙ ap (λ x. (2 * o.half + 1) * x) (pow-add 2 r j) ∙ regroup (2 * o.half + 1) (2 ^ r) (2 ^ j);
    }
  where
    regroup : (a b c : ℕ) → a * (b * c) ≡ a * b * c
    regroup a b c = omega arith

two_monotone : (a b : ℕ) → a ≤ b → 2 ^ a ≤ 2 ^ b
two_monotone a b h =
    let e : 2 ^ b ≡ 2 ^ (b - a) * 2 ^ a = ap (λ x. 2 ^ x) (let f : b ≡ b - a + a = omega arith in f) ∙ pow-add 2 (b - a) a in
    let p = pow_pos (b - a) in
    let m = mul-le-mul_right (2 ^ a) p in
    omega arith

-- a cell by its place: it begins just after m times its width
pub record IsPlaced (n m h : ℕ) : Type 0 where
  pub cell : IsCellNumber n
  pub first : first_at n ≡ 2 * (m * 4 ^ h) + 1
  pub last : end_at n ≡ 2 * (m * 4 ^ h) + 2 * 4 ^ h + 1

pub placed : (m h n : ℕ) → h ≤ 30 → n < 6 * 2 ^ 61 → n ≡ (2 * m + 1) * 4 ^ h → IsPlaced n m h
placed m h n le below e =
    let pos = four_pos h in
    let number = number-path_at m h n le e in
    let long : length (path_at n).digits ≡ 30 - h = ap (λ (p : Path). length p.digits) (path_by_place m h n le e) ∙ length-last_digits (30 - h) m in
    let split : n ≡ 2 * (m * 4 ^ h) + 4 ^ h = e ∙ spread m (4 ^ h) in
    let cell : IsCellNumber n = (below, omega arith, number) in
    let r = by_width n cell in
    let w : width (path_at n) ≡ 4 ^ h = ap (λ x. 4 ^ x) (let f : 30 - length (path_at n).digits ≡ h = omega arith in f) in
    let a = r.number in
    let b = r.first in
    let c = r.last in
    record { cell = cell; first = omega arith; last = omega arith }
  where
    spread : (m w : ℕ) → (2 * m + 1) * w ≡ 2 * (m * w) + w
    spread m w = omega arith

-- the level of any cell that begins here and fits
fits : (at limit zeros wide : ℕ) → at < limit → zeros ≡ trailing_zeros w64 (at - 1) → limit - at < 2 * 2 ^ wide → (b : ℕ) → IsCellNumber b
    → first_at b ≡ at → end_at b ≤ limit
    → (2 * (30 - length (path_at b).digits) + 1 ≤ zeros) × (2 * (30 - length (path_at b).digits) + 1 ≤ wide)
fits at limit zeros wide some z w b cell begins ends =
    let r = by_width b cell in
    let k = 30 - length (path_at b).digits in
    let f = r.first in
    let l = r.last in
    let odd = four_pow_odd k in
    let whole : at - 1 ≡ 2 * start (path_at b) = omega arith in (
      (let m = zeros_least 64 (2 * k + 1) (place_of (path_at b)) (at - 1) (omega arith) (whole ∙ sym (times_double (place_of (path_at b)) (4 ^ k)) ∙ ap (λ x. place_of (path_at b) * x) (sym odd)) in omega arith),
      elim (cases_lt wide (2 * k + 1)) [
        | inl h ↦ absurd (let m = two_monotone (suc wide) (2 * k + 1) h in let s = two_step wide in omega arith)
        | inr h ↦ h
      ],
    )

-- the least of three numbers
pub record IsLeast (least a b c : ℕ) : Type 0 where
  pub first : least ≤ a
  pub second : least ≤ b
  pub third : least ≤ c
  pub greatest : (x : ℕ) → x ≤ a → x ≤ b → x ≤ c → x ≤ least

pub least_of : (a b c m n : ℕ) → m ≡ min a b → n ≡ min m c → IsLeast n a b c
least_of a b c m n e f = record {
  first = omega arith;
  second = omega arith;
  third = omega arith;
  greatest = λ x below_a below_b below_c. omega arith;
}

pub some_fit : (at limit wide fit : ℕ) → at % 2 ≡ 1 → limit % 2 ≡ 1 → at < limit → 2 ^ wide ≤ limit - at → limit - at < 2 * 2 ^ wide
    → IsLeast fit (trailing_zeros w64 (at - 1)) wide 61 → 1 ≤ fit
some_fit at limit wide fit odd odd_limit some w1 w2 least =
    let one_zero = zeros_least 64 1 ((at - 1) / 2) (at - 1) (omega arith) (let e : at - 1 ≡ (at - 1) / 2 * 2 = omega arith in e) in
    let one_wide : 1 ≤ wide = elim (cases_lt wide 1) [ inl lt ↦ absurd (let e : wide ≡ 0 = omega arith in let f = ap (λ x. 2 ^ x) e in omega arith) | inr le ↦ le ] in
    least.greatest 1 one_zero one_wide (omega arith)

-- the width as the code shifts it
shifted : (fit : ℕ) → fit ≤ 61 → 1 * 2 ^ (2 * ((fit - 1) / 2)) % 18446744073709551616 ≡ 4 ^ ((fit - 1) / 2)
shifted fit h = one_shl (2 * ((fit - 1) / 2)) 64 (omega arith) ∙ four_pow ((fit - 1) / 2)

greatest_cell : (at limit wide fit : ℕ) → at % 2 ≡ 1 → limit % 2 ≡ 1 → at < limit → limit ≤ leaf_end → 2 ^ wide ≤ limit - at
    → limit - at < 2 * 2 ^ wide → IsLeast fit (trailing_zeros w64 (at - 1)) wide 61
    → IsCellNumber (at - 1 + 4 ^ ((fit - 1) / 2)) × IsGreatest (at - 1 + 4 ^ ((fit - 1) / 2)) at limit
greatest_cell at limit wide fit odd odd_limit some on_curve w1 w2 least =
    let h = (fit - 1) / 2 in
    let l1 = least.first in
    let l2 = least.second in
    let l3 = least.third in
    let some_fits = some_fit at limit wide fit odd odd_limit some w1 w2 least in
    let m = multiple (2 * h + 1) (at - 1) (omega arith) (omega arith) in
    let two = four_pow_odd h in
    let pos = four_pos h in
    let at_place : at - 1 ≡ 2 * (m.times * 4 ^ h) = m.is ∙ ap (λ x. m.times * x) two ∙ times_double m.times (4 ^ h) in
    let room = two_monotone (2 * h + 1) wide (omega arith) in
    let n = at - 1 + 4 ^ h in
    let p = placed m.times h n (omega arith) (omega arith) (let e : n ≡ 2 * (m.times * 4 ^ h) + 4 ^ h = omega arith in e ∙ gather m.times (4 ^ h)) in
    let first = p.first in
    let last = p.last in (
      p.cell,
      record {
        begins = omega arith;
        ends = omega arith;
        greatest = λ b cell begins ends.
            let f = fits at limit (trailing_zeros w64 (at - 1)) wide some refl w2 b cell begins ends in
            let k = 30 - length (path_at b).digits in
            let le = least.greatest (2 * k + 1) f.0 f.1 (omega arith) in
            let r = by_width b cell in
            let rf = r.first in
            let rl = r.last in
            let narrow : 4 ^ k ≤ 4 ^ h = four_monotone k h (omega arith) in
            omega arith;
      },
    )
  where
    gather : (m w : ℕ) → 2 * (m * w) + w ≡ (2 * m + 1) * w
    gather m w = omega arith

    four_monotone : (a b : ℕ) → a ≤ b → 4 ^ a ≤ 4 ^ b
    four_monotone a b h = elim (cases_lt a b) [ inl lt ↦ let m = four_below a b lt in omega arith | inr ge ↦ let e = ap (λ x. 4 ^ x) (let f : a ≡ b = omega arith in f) in omega arith ]

-- the same, as the code shifts it
pub greatest_shifted : (at limit wide fit : ℕ) → at % 2 ≡ 1 → limit % 2 ≡ 1 → at < limit → limit ≤ leaf_end → 2 ^ wide ≤ limit - at → limit - at < 2 * 2 ^ wide → IsLeast fit (trailing_zeros w64 (at - 1)) wide 61 → let n = at - 1 + 1 * 2 ^ (2 * ((fit - 1) / 2)) % 18446744073709551616 in IsCellNumber n × IsGreatest n at limit
greatest_shifted at limit wide fit odd odd_limit some on_curve w1 w2 least =
    subst (λ x. IsCellNumber (at - 1 + x) × IsGreatest (at - 1 + x) at limit) (sym (shifted fit least.third)) (greatest_cell at limit wide fit odd odd_limit some on_curve w1 w2 least)
