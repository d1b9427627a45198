-- The numbers that the lines of a journal write.
use Rattle.std.proofs.Common.{◌≡◌, ◌≢◌, ℕ, ◌^◌, ◌<◌, ◌≤◌, Option, Some, None, List, refl, sym, ap, ◌∙◌, ⊎_elim, arith}
use Rattle.std.specs.Prelude.{decimal}
use Rattle.std.specs.Option.{option_and_then}
use Rattle.std.proofs.lemmas.Bool.{cases_lt, cond-true, cond-false, and_from, and_left, and_right, le-leb, lt-leb}
use Rattle.s2ix_text_parts.specs.Written.{number_written}
use Rattle.s2ix_text_parts.proofs.Numerals.{number_of_digits, written_number}
use Rattle.s2ix_text.specs.Numbers.{side_from, side_written, size_from, size_written}

-- ---- counts before and after

pub side_within : (most n : ℕ) → n ≤ most → side_from most n ≡ Some n
side_within most n high = cond-true _ _ _ (le-leb n most high)

pub side_above : (most n : ℕ) → most < n → side_from most n ≡ None
side_above most n high = cond-false _ _ _ (lt-leb n most high)

side_at : (most : ℕ) → most < 2 ^ 32 → (number : Option ℕ) → ((n : ℕ) → n < 2 ^ 32 → number ≢ Some n)
    → option_and_then (side_from most) number ≡ None
side_at most bounded None large = refl
side_at most bounded (Some n) large =
    ⊎_elim (λ small. absurd (large n small refl)) (λ above. side_above most n (omega arith)) (cases_lt n (2 ^ 32))

pub no_side : (most : ℕ) → most < 2 ^ 32 → (text : List ℕ) → ((n : ℕ) → n < 2 ^ 32 → number_written text ≢ Some n)
    → side_written most text ≡ None
unfolding side_written
no_side most bounded text large = side_at most bounded (number_written text) large

pub side_from_number : (most : ℕ) (text : List ℕ) (n : ℕ) → number_written text ≡ Some n → side_written most text ≡ side_from most n
unfolding side_written
side_from_number most text n is = ap (option_and_then (side_from most)) is

side_in_range : (most : ℕ) (number : Option ℕ) (n : ℕ) → option_and_then (side_from most) number ≡ Some n → (number ≡ Some n) × (n ≤ most)
side_in_range most None n is = cc
side_in_range most (Some m) n is =
    ⊎_elim
    (λ high. let clash : None ≡ Some n = sym (side_above most m high) ∙ is in cc)
    (λ within_limit. let same : Some m ≡ Some n = sym (side_within most m within_limit) ∙ is in let equal : m ≡ n = cc in (ap Some equal, omega arith))
    (cases_lt most m)

pub written_side : (most : ℕ) (text : List ℕ) (n : ℕ) → side_written most text ≡ Some n → (text ≡ decimal n) × (n ≤ most)
unfolding side_written
written_side most text n is = let range = side_in_range most (number_written text) n is in (written_number text n range.0, range.1)

pub side_of_digits : (most : ℕ) → most < 2 ^ 32 → (n : ℕ) → n ≤ most → side_written most (decimal n) ≡ Some n
side_of_digits most bounded n high = side_from_number most (decimal n) n (number_of_digits n (omega arith)) ∙ side_within most n high

-- ---- numbers of entries

pub size_within : (n : ℕ) → 1 ≤ n → n ≤ 2000000 → size_from n ≡ Some n
size_within n low high = cond-true _ _ _ (and_from _ _ (le-leb 1 n low) (le-leb n 2000000 high))

pub size_zero : (n : ℕ) → n < 1 → size_from n ≡ None
size_zero n low = cond-false _ _ _ (and_left _ _ (lt-leb 1 n low))

pub size_above : (n : ℕ) → 2000000 < n → size_from n ≡ None
size_above n high = cond-false _ _ _ (and_right _ _ (lt-leb n 2000000 high))

size_at : (number : Option ℕ) → ((n : ℕ) → n < 2 ^ 32 → number ≢ Some n) → option_and_then size_from number ≡ None
size_at None large = refl
size_at (Some n) large =
    ⊎_elim (λ small. absurd (large n small refl)) (λ above. size_above n (omega arith)) (cases_lt n (2 ^ 32))

pub no_size : (text : List ℕ) → ((n : ℕ) → n < 2 ^ 32 → number_written text ≢ Some n) → size_written text ≡ None
unfolding size_written
no_size text large = size_at (number_written text) large

pub size_from_number : (text : List ℕ) (n : ℕ) → number_written text ≡ Some n → size_written text ≡ size_from n
unfolding size_written
size_from_number text n is = ap (option_and_then size_from) is

size_in_range : (number : Option ℕ) (n : ℕ) → option_and_then size_from number ≡ Some n → (number ≡ Some n) × (1 ≤ n) × (n ≤ 2000000)
size_in_range None n is = cc
size_in_range (Some m) n is =
    ⊎_elim
    (λ low. let clash : None ≡ Some n = sym (size_zero m low) ∙ is in cc)
    (λ some. ⊎_elim
    (λ high. let clash : None ≡ Some n = sym (size_above m high) ∙ is in cc)
    (λ within_limit. let same : Some m ≡ Some n = sym (size_within m some within_limit) ∙ is in let equal : m ≡ n = cc in
    (ap Some equal, omega arith, omega arith))
    (cases_lt 2000000 m))
    (cases_lt m 1)

pub written_size : (text : List ℕ) (n : ℕ) → size_written text ≡ Some n → (text ≡ decimal n) × (1 ≤ n) × (n ≤ 2000000)
unfolding size_written
written_size text n is = let range = size_in_range (number_written text) n is in (written_number text n range.0, range.1, range.2)

pub size_of_digits : (n : ℕ) → 1 ≤ n → n ≤ 2000000 → size_written (decimal n) ≡ Some n
size_of_digits n low high = size_from_number (decimal n) n (number_of_digits n (omega arith)) ∙ size_within n low high
