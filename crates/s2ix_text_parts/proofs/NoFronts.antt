-- What stands at the front of a text is what is read there: a pass over digits stops where the token or the number ends.
use Rattle.std.proofs.Common.{◌≡◌, ◌≢◌, ℕ, ◌-◌, ◌*◌, ◌%◌, ◌^◌, ◌<◌, ◌≤◌, List, [], ◌∷◌, ◌++◌, All, length, take, get_or, refl, sym, ap, ◌∙◌, subst, arith, ⊎_elim}
use Rattle.std.specs.Prelude.{decimal}
use Rattle.std.specs.Char.{digit_value}
use Rattle.std.specs.Str.Parse.{AllDigits, digits_value}
use Rattle.std.proofs.lemmas.Bool.{cases_lt}
use Rattle.std.proofs.lemmas.Fmt.{decimal_digit, decimal_is_IsNumeral, decimal_nonempty, first_decimal, length-decimal-le}
use Rattle.std.proofs.lemmas.List.{get_or-take, get_or_append_left, length-take-le, take_at}
use Rattle.std.proofs.lemmas.List.Elements.{All-cons, All-nil}
use Rattle.s2id_core.specs.Cell.{IsCellNumber}
use Rattle.s2id_core.specs.Token.{IsLowerHex, canonical_token}
use Rattle.s2id_core.proofs.Canonical.{all_digits_from_lower, canonical_spells, lower-canonical_token, one_canonical}
use Rattle.s2id_core.proofs.Digits.{shifted_value}

-- ---- where a pass stops

pub after_front : (xs ys : List ℕ) (x : ℕ) → get_or (xs ++ x ∷ ys) (length xs) 0 ≡ x
after_front [] ys x = refl
after_front (y ∷ xs) ys x = after_front xs ys x

-- a pass over what fulfils P, `most` steps at the most, stops after `front`, if the next byte doesn't
stops_after : (P : ℕ → Type 0) (front rest : List ℕ) (end len most : ℕ) → All P front → length front ≤ most → ¬ P end → len ≤ most
    → len < length (front ++ end ∷ rest) → All P (take len (front ++ end ∷ rest))
    → (len < most → ¬ P (get_or (front ++ end ∷ rest) len 0)) → len ≡ length front
stops_after P front rest end len most own short other within_limit inside all stop =
    let text = front ++ end ∷ rest in
    ⊎_elim
    (λ early. absurd (stop (omega arith) (subst P (sym (get_or_append_left front (end ∷ rest) 0 len early)) (own len 0 early))))
    (λ late. ⊎_elim
    (λ beyond.
    let long : length (take len text) ≡ len = length-take-le len text (omega arith) in
    let here : get_or (take len text) (length front) 0 ≡ end = get_or-take len text (length front) 0 beyond ∙ after_front front rest end in
    absurd (other (subst P here (all (length front) 0 (omega arith)))))
    (λ same. omega arith)
    (cases_lt (length front) len))
    (cases_lt len (length front))

-- ---- a token

-- what is read of a text with a cell's canonical token and a space at its front
pub record IsTokenRead (text : List ℕ) (len number raw : ℕ) : Type 0 where
  pub some : 0 < len
  pub space : get_or text len 0 ≡ 32
  pub last : get_or text (len - 1) 0 ≢ 48
  pub shifted : number * 2 ^ (64 - 4 * len) % 2 ^ 64 ≡ raw

no_space_in_hex : ¬ IsLowerHex 32
no_space_in_hex lower = omega (arith, lower)

pub token_is_read : (text rest : List ℕ) (len number raw : ℕ) → text ≡ canonical_token raw ++ 32 ∷ rest → IsCellNumber raw → len ≤ 16
    → len < length text → All IsLowerHex (take len text) → number ≡ digits_value 16 (take len text)
    → (len < 16 → ¬ IsLowerHex (get_or text len 0)) → IsTokenRead text len number raw
token_is_read text rest len number raw is cell within_limit inside lower value stop =
    let token = canonical_token raw in
    let whole = token ++ 32 ∷ rest in
    let spells = canonical_spells raw cell in
    let own = lower-canonical_token raw in
    let long : len ≡ length token =
    stops_after IsLowerHex token rest 32 len 16 own spells.at_most no_space_in_hex within_limit (subst (λ t. len < length t) is inside)
    (subst (λ t. All IsLowerHex (take len t)) is lower)
    (λ early. subst (λ t. ¬ IsLowerHex (get_or t len 0)) is (stop early)) in
    let front : take len text ≡ token = ap (take len) is ∙ take_at token (32 ∷ rest) len (sym long) in
    let canonical = (one_canonical token raw cell spells).1 refl in
    let some = spells.some in
    let at_most = spells.at_most in
    record {
      some = omega arith;
      space = ap (λ t. get_or t len 0) is ∙ ap (λ k. get_or whole k 0) long ∙ after_front token rest 32;
      last =
          λ zero. canonical.no_last_zero
          (ap (λ k. get_or token (k - 1) 0) (sym long) ∙ sym (get_or_append_left token (32 ∷ rest) 0 (len - 1) (omega arith))
          ∙ ap (λ t. get_or t (len - 1) 0) (sym is) ∙ zero);
      shifted =
          ap (λ k. number * 2 ^ (64 - 4 * k) % 2 ^ 64) long
          ∙ shifted_value token number at_most (all_digits_from_lower token own) (value ∙ ap (digits_value 16) front)
          ∙ spells.value;
    }

-- ---- a number

-- what is read of a text with a number's canonical digits and the byte `end` at its front
pub record IsNumberRead (text : List ℕ) (len end : ℕ) : Type 0 where
  pub some : 0 < len
  pub end_byte : get_or text len 0 ≡ end
  pub first : 1 < len → get_or text 0 0 ≢ 48

all_from_digits : (ds : List ℕ) → AllDigits 10 ds → All (λ byte. digit_value byte < 10) ds
all_from_digits [] all = All-nil (λ byte. digit_value byte < 10)
all_from_digits (d ∷ ds) all = All-cons (λ byte. digit_value byte < 10) d ds all.0 (all_from_digits ds all.1)

pub number_is_read : (text rest : List ℕ) (len end n : ℕ) → text ≡ decimal n ++ end ∷ rest → n < 10 ^ 9 → 10 ≤ digit_value end → len ≤ 9
    → len < length text → AllDigits 10 (take len text)
    → (len < 9 → 10 ≤ digit_value (get_or text len 0)) → IsNumberRead text len end
number_is_read text rest len end n is small other within_limit inside all stop =
    let digits = decimal n in
    let Digit : ℕ → Type 0 = λ byte. digit_value byte < 10 in
    let own = (decimal_is_IsNumeral n (omega arith)).0.1 in
    let short : length digits ≤ 9 = length-decimal-le 9 n (omega arith) small (omega arith) in
    let some = decimal_nonempty n (omega arith) in
    let long : len ≡ length digits =
    stops_after Digit digits rest end len 9 (all_from_digits digits own) short (λ digit. omega (arith, digit, other)) within_limit
    (subst (λ t. len < length t) is inside) (subst (λ t. All Digit (take len t)) is (all_from_digits (take len text) all))
    (λ early. subst (λ t. ¬ Digit (get_or t len 0)) is (λ digit. omega (arith, digit, stop early))) in
    record {
      some = omega arith;
      end_byte = ap (λ t. get_or t len 0) is ∙ ap (λ k. get_or (digits ++ end ∷ rest) k 0) long ∙ after_front digits rest end;
      first =
          λ several zero.
          let here : get_or digits 0 0 ≡ 48 =
          sym (get_or_append_left digits (end ∷ rest) 0 0 (omega arith)) ∙ ap (λ t. get_or t 0 0) (sym is) ∙ zero in
          ⊎_elim
          (λ none. let lone : length digits ≡ 1 = ap length (decimal_digit n (omega arith)) in omega arith)
          (λ positive. let first = first_decimal n (omega arith) (omega arith) in omega arith)
          (cases_lt n 1);
    }
