-- Script numbers: when digits write one, and which.
use Rattle.std.proofs.Common.{◌≡◌, ◌⊎◌, ℕ, ◌+◌, ◌-◌, ◌*◌, ◌^◌, ◌<◌, ◌≤◌, nat_eq, true, false, Some, None, Result, Ok, Err, List, length, get_or, take, refl, sym, ap, ◌∙◌, add-one, arith}
use Rattle.std.specs.Char.{is_ascii_digit, digit_value}
use Rattle.std.specs.List.{list_all}
use Rattle.std.specs.Str.Parse.{digits_value}
use Rattle.std.proofs.lemmas.Bool.Decides.{nat_tests}
use Rattle.std.proofs.lemmas.List.Folds.{list_all_more, list_all_at}
use Rattle.std.proofs.lemmas.Int.Digits.{digits_value_more}
use Rattle.std.proofs.lemmas.List.{take_all}
use Rattle.std.proofs.Math.Nat.{pow-suc}
use Rattle.std.specs.Result.{OkIff, result_ok}
use Rattle.s2ix_bag_pairs.specs.Label.{label_numbered}
use Rattle.s2ix_cli_words.specs.Fields.{label_spelled, script_number}

-- no number has no digit, or more than ten
pub script_number-none : (text : List ℕ) → (length text ≡ 0) ⊎ (10 < length text) → script_number text ≡ None
unfolding script_number
script_number-none text out = grind (arith, nat_tests)

-- no number has a byte that is no digit
pub script_number-no_digit : (text : List ℕ) (k : ℕ) → k < length text → is_ascii_digit (get_or text k 0) ≡ false
    → script_number text ≡ None
unfolding script_number
script_number-no_digit text k inside other =
    let some : list_all is_ascii_digit text ≡ false = list_all_at is_ascii_digit text k 0 inside other in grind (arith, nat_tests)

-- one to ten digits are a number
pub script_number-some : (text : List ℕ) → 0 < length text → length text ≤ 10 → list_all is_ascii_digit text ≡ true
    → script_number text ≡ Some (digits_value 10 text)
unfolding script_number
script_number-some text some few all = grind (arith, nat_tests)

-- the value of a digit
digit_value-digit : (byte : ℕ) → is_ascii_digit byte ≡ true → (digit_value byte ≡ byte - 48) × (48 ≤ byte) × (byte ≤ 57)
digit_value-digit byte is = grind (arith, nat_tests)

-- digits that have been read, and their value
pub record AreRead (text : List ℕ) (k value : ℕ) : Type 0 where
  pub digits : list_all is_ascii_digit (take k text) ≡ true
  pub value_is : value ≡ digits_value 10 (take k text)
  pub small : value < 10 ^ k

-- one digit more
pub digits_more : (text : List ℕ) (k value digit : ℕ) → k < length text → AreRead text k value → is_ascii_digit (get_or text k 0) ≡ true
    → digit ≡ get_or text k 0 - 48
    → AreRead text (k + 1) (value * 10 + digit)
digits_more text k value digit inside read is digit_is =
    let at = digit_value-digit (get_or text k 0) is in
    record {
      digits = rw (list_all_more is_ascii_digit text k 0 inside, read.digits, is) refl;
      value_is = rw (digits_value_more 10 text k inside, ← read.value_is, at.0, ← digit_is) refl;
      small = let more : 10 ^ (k + 1) ≡ 10 ^ k * 10 = rw add-one (pow-suc 10 k) in let low = read.small in omega (arith, at.1, at.2);
    }

-- a text that has been read to its end is the number
pub script_number-read : (text : List ℕ) (k value : ℕ) → 0 < length text → length text ≤ 10 → length text ≤ k → AreRead text k value
    → script_number text ≡ Some value
script_number-read text k value some few end read =
    script_number-some text some few (rw (take_all k text end) at read.digits) ∙ ap Some (sym (rw (take_all k text end) at read.value_is))

-- a text that `is_empty` does not pass has a byte
pub some_from_test : (text : List ℕ) → nat_eq (length text) 0 ≡ false → 0 < length text
some_from_test text h = grind (arith, nat_tests)

-- the label of a number that fits 32 bits
pub label_spelled-number : {E : Type 0} (text : List ℕ) (number value : ℕ) (fits : Result ℕ E) → script_number text ≡ Some number
    → OkIff fits (number < 2 ^ 32) number → Some value ≡ result_ok fits
    → label_numbered value ≡ label_spelled text
label_spelled-number text number value (Ok n) is fits same = rw is (let e : value ≡ n = cc in ap label_numbered (e ∙ fits.1))
label_spelled-number text number value (Err e) is fits same = cc
