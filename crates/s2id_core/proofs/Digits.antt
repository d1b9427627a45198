-- Hexadecimal digits: the tables of the code, and the number that a text of digits writes.
use Rattle.std.proofs.Common.{◌≡◌, ◌==◌, true, false, cond, ℕ, zero, suc, ◌+◌, ◌-◌, ◌*◌, ◌/◌, ◌%◌, ◌^◌, ◌<◌, ◌≤◌, min, List, [], ◌∷◌, ◌++◌, length, map, take, replicate, get_or, sym, ◌∙◌, ap, ap₂, refl, arith, subst}
use Rattle.std.specs.Char.{digit_char, digit_value}
use Rattle.std.specs.List.{range_with_len}
use Rattle.std.specs.Str.Parse.{AllDigits, digits_value, digits_value_after}
use Rattle.std.proofs.lemmas.Bool.{cond-false, cond-true, eq-eqb, ne_eqb}
use Rattle.std.proofs.lemmas.List.FromFn.{get_or-map-range_with_len}
use Rattle.std.proofs.lemmas.Nat.{pow-add, shl_whole}
use Rattle.std.proofs.lemmas.Int.Digits.{digits_value-lt}
use Rattle.std.proofs.lemmas.List.{length-take-le}
use Rattle.std.proofs.Math.Nat.{pow-suc, pow-le-pow_right}

-- ---- the tables

abbrev pub digit_values : List ℕ
digit_values = 16 ∷ 16 ∷ 16 ∷ 16 ∷ 16 ∷ 16 ∷ 16 ∷ 16 ∷ 16 ∷ 16 ∷ 16 ∷ 16 ∷ 16 ∷ 16 ∷ 16 ∷ 16 ∷ 16 ∷ 16 ∷ 16 ∷ 16 ∷ 16 ∷ 16 ∷ 16 ∷ 16 ∷ 16 ∷ 16 ∷ 16 ∷ 16 ∷ 16 ∷ 16 ∷ 16 ∷ 16 ∷ 16 ∷ 16 ∷ 16 ∷ 16 ∷ 16 ∷ 16 ∷ 16 ∷ 16 ∷ 16 ∷ 16 ∷ 16 ∷ 16 ∷ 16 ∷ 16 ∷ 16 ∷ 16 ∷ 0 ∷ 1 ∷ 2 ∷ 3 ∷ 4 ∷ 5 ∷ 6 ∷ 7 ∷ 8 ∷ 9 ∷ 16 ∷ 16 ∷ 16 ∷ 16 ∷ 16 ∷ 16 ∷ 16 ∷ 10 ∷ 11 ∷ 12 ∷ 13 ∷ 14 ∷ 15 ∷ 16 ∷ 16 ∷ 16 ∷ 16 ∷ 16 ∷ 16 ∷ 16 ∷ 16 ∷ 16 ∷ 16 ∷ 16 ∷ 16 ∷ 16 ∷ 16 ∷ 16 ∷ 16 ∷ 16 ∷ 16 ∷ 16 ∷ 16 ∷ 16 ∷ 16 ∷ 16 ∷ 16 ∷ 16 ∷ 16 ∷ 10 ∷ 11 ∷ 12 ∷ 13 ∷ 14 ∷ 15 ∷ 16 ∷ 16 ∷ 16 ∷ 16 ∷ 16 ∷ 16 ∷ 16 ∷ 16 ∷ 16 ∷ 16 ∷ 16 ∷ 16 ∷ 16 ∷ 16 ∷ 16 ∷ 16 ∷ 16 ∷ 16 ∷ 16 ∷ 16 ∷ 16 ∷ 16 ∷ 16 ∷ 16 ∷ 16 ∷ 16 ∷ 16 ∷ 16 ∷ 16 ∷ 16 ∷ 16 ∷ 16 ∷ 16 ∷ 16 ∷ 16 ∷ 16 ∷ 16 ∷ 16 ∷ 16 ∷ 16 ∷ 16 ∷ 16 ∷ 16 ∷ 16 ∷ 16 ∷ 16 ∷ 16 ∷ 16 ∷ 16 ∷ 16 ∷ 16 ∷ 16 ∷ 16 ∷ 16 ∷ 16 ∷ 16 ∷ 16 ∷ 16 ∷ 16 ∷ 16 ∷ 16 ∷ 16 ∷ 16 ∷ 16 ∷ 16 ∷ 16 ∷ 16 ∷ 16 ∷ 16 ∷ 16 ∷ 16 ∷ 16 ∷ 16 ∷ 16 ∷ 16 ∷ 16 ∷ 16 ∷ 16 ∷ 16 ∷ 16 ∷ 16 ∷ 16 ∷ 16 ∷ 16 ∷ 16 ∷ 16 ∷ 16 ∷ 16 ∷ 16 ∷ 16 ∷ 16 ∷ 16 ∷ 16 ∷ 16 ∷ 16 ∷ 16 ∷ 16 ∷ 16 ∷ 16 ∷ 16 ∷ 16 ∷ 16 ∷ 16 ∷ 16 ∷ 16 ∷ 16 ∷ 16 ∷ 16 ∷ 16 ∷ 16 ∷ 16 ∷ 16 ∷ 16 ∷ 16 ∷ 16 ∷ 16 ∷ 16 ∷ 16 ∷ 16 ∷ 16 ∷ 16 ∷ 16 ∷ 16 ∷ 16 ∷ 16 ∷ 16 ∷ 16 ∷ 16 ∷ 16 ∷ 16 ∷ 16 ∷ 16 ∷ 16 ∷ 16 ∷ 16 ∷ 16 ∷ 16 ∷ 16 ∷ 16 ∷ 16 ∷ 16 ∷ 16 ∷ 16 ∷ 16 ∷ 16 ∷ 16 ∷ 16 ∷ 16 ∷ 16 ∷ 16 ∷ 16 ∷ 16 ∷ 16 ∷ []

table_is_rule : digit_values ≡ map (λ c. min 16 (digit_value c)) (range_with_len 0 256)
table_is_rule = refl

pub worth_by_table : (c : ℕ) → c < 256 → get_or digit_values c 0 ≡ min 16 (digit_value c)
worth_by_table c h = ap (λ (l : List ℕ). get_or l c 0) table_is_rule ∙ get_or-map-range_with_len (λ c. min 16 (digit_value c)) 0 256 c c 0 h (omega arith)

-- the digit of a half of a byte: the upper one at an even place
abbrev half_digit : ℕ → ℕ
half_digit place = digit_char (cond (place % 2 == 0) (place / 32) (place / 2 % 16))

abbrev pub half_digits : List ℕ
half_digits = map half_digit (range_with_len 0 512)

half_at : (place : ℕ) → place < 512 → get_or half_digits place 0 ≡ half_digit place
half_at place h = get_or-map-range_with_len half_digit 0 512 place place 0 h (omega arith)

pub high_by_table : (b : ℕ) → b < 256 → get_or half_digits (2 * b) 0 ≡ digit_char (b / 16)
high_by_table b h =
    let even : (2 * b % 2 == 0) ≡ true = eq-eqb (2 * b % 2) 0 (omega arith) in
    let same : 2 * b / 32 ≡ b / 16 = omega arith in
    half_at (2 * b) (omega arith) ∙ ap digit_char (cond-true _ _ _ even ∙ same)

pub low_by_table : (b : ℕ) → b < 256 → get_or half_digits (2 * b + 1) 0 ≡ digit_char (b % 16)
low_by_table b h =
    let odd : ((2 * b + 1) % 2 == 0) ≡ false = ne_eqb ((2 * b + 1) % 2) 0 (λ none. omega (arith, none)) in
    let same : (2 * b + 1) / 2 % 16 ≡ b % 16 = omega arith in
    half_at (2 * b + 1) (omega arith) ∙ ap digit_char (cond-false _ _ _ odd ∙ same)

-- ---- the number that digits write

pub sixteen_pow : (k : ℕ) → 2 ^ (4 * k) ≡ 16 ^ k
sixteen_pow zero = refl
sixteen_pow (suc k) =
    let e : 4 * suc k ≡ 4 + 4 * k = omega arith in
    let s = pow-suc 16 k in
    ap (λ x. 2 ^ x) e ∙ pow-add 2 4 (4 * k) ∙ ap (λ x. 16 * x) (sixteen_pow k) ∙ (let m : 16 * 16 ^ k ≡ 16 ^ suc k = omega arith in m)

-- one more digit at the end fits 64 bits
pub digit_fits : (text : List ℕ) (place number d : ℕ) → place < 16 → place < length text → AllDigits 16 (take place text)
    → number ≡ digits_value 16 (take place text) → d < 16 → number * 16 + d < 2 ^ 64
digit_fits text place number d h within all is small =
    let below = digits_value-lt 16 (take place text) all in
    let long : length (take place text) ≡ place = length-take-le place text (omega arith) in
    let below_pow : number < 16 ^ place = subst (λ k. number < 16 ^ k) long (omega arith) in
    let most : 16 ^ place ≤ 16 ^ 15 = pow-le-pow_right {n = 16} (omega arith) {i = place} {j = 15} (omega arith) in
    omega arith

pub value_after-append : (n : ℕ) (xs ys : List ℕ)
    → digits_value_after 16 n (xs ++ ys) ≡ digits_value_after 16 (digits_value_after 16 n xs) ys
value_after-append n [] ys = refl
value_after-append n (x ∷ xs) ys = value_after-append (n * 16 + digit_value x) xs ys

pub value_after-zeros : (n k : ℕ) → digits_value_after 16 n (replicate k 48) ≡ n * 16 ^ k
value_after-zeros n zero = omega arith
value_after-zeros n (suc k) = value_after-zeros (n * 16 + 0) k ∙ step n (16 ^ k) ∙ ap (λ x. n * x) (sym (pow-suc 16 k))
  where
    step : (n b : ℕ) → (n * 16 + 0) * b ≡ n * (b * 16)
    step n b = omega arith

-- what the code's shift makes of the digits' number: the number with zeros on the right
pub shifted_value : (text : List ℕ) (n : ℕ) → length text ≤ 16 → AllDigits 16 text → n ≡ digits_value 16 text
    → n * 2 ^ (64 - 4 * length text) % 2 ^ 64 ≡ digits_value 16 (text ++ replicate (16 - length text) 48)
shifted_value text n fits all is =
    let k = 16 - length text in
    let shift : 64 - 4 * length text ≡ 4 * k = omega arith in
    let below : n < 2 ^ (4 * length text) = subst (λ x. n < x) (sym (sixteen_pow (length text))) (subst (λ x. x < 16 ^ length text) (sym is) (digits_value-lt 16 text all)) in
    shl_whole n (4 * length text) (64 - 4 * length text) 64 below (omega arith) ∙ ap₂ (λ x y. x * 2 ^ y) is shift ∙ ap (λ x. digits_value 16 text * x) (sixteen_pow k) ∙ sym (value_after-append 0 text (replicate k 48) ∙ value_after-zeros (digits_value 16 text) k)

-- each byte of a text of digits is one
pub digit_at : (text : List ℕ) (place : ℕ) → AllDigits 16 text → place < length text → digit_value (get_or text place 0) < 16
digit_at [] place all h = absurd (omega arith)
digit_at (c ∷ cs) zero all h = all.0
digit_at (c ∷ cs) (suc place) all h = digit_at cs place all.1 (omega arith)
