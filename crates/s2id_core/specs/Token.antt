-- How a cell's number is written as a token, and which texts spell it.
use Rattle.std.specs.Prelude.{◌≡◌, ℕ, ◌==◌, ◌-◌, ◌/◌, ◌%◌, ◌^◌, ◌<◌, ◌≤◌, ◌≢◌, ◌⊎◌, All, List, ◌++◌, length, map, take, replicate, slice_index}
use Rattle.std.specs.Char.{digit_char, digit_value}
use Rattle.std.specs.List.{range_with_len, suffix_len}
use Rattle.std.specs.Str.Parse.{AllDigits, digits_value}

-- the number in sixteen lower-case hexadecimal digits, the highest first
unfoldable pub sixteen_digits : ℕ → List ℕ
sixteen_digits n = map (λ place. digit_char (n / 16 ^ (15 - place) % 16)) (range_with_len 0 16)

-- a text without the zeros at its end: `0` is 48
unfoldable pub without_last_zeros : List ℕ → List ℕ
without_last_zeros text = take (length text - suffix_len (λ byte. byte == 48) text) text

-- the one token that is printed for a number
unfoldable pub canonical_token : ℕ → List ℕ
canonical_token n = without_last_zeros (sixteen_digits n)

-- 1 to 16 hexadecimal digits of either case, which with zeros added on the right up to 16 are the number
pub record Spells (text : List ℕ) (n : ℕ) : Type 0 where
  pub some : 0 < length text
  pub at_most : length text ≤ 16
  pub digits : AllDigits 16 text
  pub value : digits_value 16 (text ++ replicate (16 - length text) 48) ≡ n

-- the first byte of the text that is no hexadecimal digit stands at this place, counted from 0
pub record IsFirstNotHex (text : List ℕ) (place : ℕ) : Type 0 where
  pub within : place < length text
  pub before : AllDigits 16 (take place text)
  pub here : 16 ≤ digit_value (slice_index text place)

-- one of `0` to `9` and `a` to `f`
abbrev pub IsLowerHex : ℕ → Type 0
IsLowerHex byte = ((48 ≤ byte) × (byte ≤ 57)) ⊎ ((97 ≤ byte) × (byte ≤ 102))

-- digits and lower-case letters `a` to `f` only, and the last is not `0`
pub record IsCanonicalText (text : List ℕ) : Type 0 where
  pub lower : All IsLowerHex text
  pub no_last_zero : slice_index text (length text - 1) ≢ 48
