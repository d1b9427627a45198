-- What stands at the front of a text: a canonical token, or a canonical number, and a byte after it.
use Rattle.std.proofs.Common.{◌≡◌, ◌≢◌, ◌&&◌, ℕ, ◌+◌, ◌-◌, ◌*◌, ◌%◌, ◌^◌, ◌<◌, ◌≤◌, cond, min, List, ◌∷◌, ◌++◌, All, length, map, take, drop, get_or, refl, sym, ap, ◌∙◌, subst, arith, ⊎_elim, inl, inr}
use Rattle.std.specs.Prelude.{decimal, nat_le}
use Rattle.std.specs.Char.{digit_value}
use Rattle.std.specs.List.{range_with_len}
use Rattle.std.specs.Str.Parse.{AllDigits, digits_value}
use Rattle.std.proofs.lemmas.Bool.{cases_lt}
use Rattle.std.proofs.lemmas.Bool.Decides.{nat_tests}
use Rattle.std.proofs.lemmas.Fmt.{decimal-digits_value}
use Rattle.std.proofs.lemmas.Int.Digits.{digits_more, digits_value-lt, digits_value_more}
use Rattle.std.proofs.lemmas.List.{drop_more, get_or-take, length-take-le, take-append-drop, take_more}
use Rattle.std.proofs.lemmas.List.Elements.{All-push}
use Rattle.std.proofs.lemmas.List.FromFn.{get_or-map-range_with_len}
use Rattle.std.proofs.lemmas.Str.{digit_value_digit}
use Rattle.std.proofs.lemmas.Str.Parse.{IsNumeralModel, digit_from_value, digits_value_short, numerals_by_value, tells_digits}
use Rattle.std.proofs.Math.Nat.{pow-le-pow_right}
use Rattle.s2id_core.specs.Cell.{IsCellNumber}
use Rattle.s2id_core.specs.Token.{IsCanonicalText, IsLowerHex, Spells, canonical_token}
use Rattle.s2id_core.proofs.Canonical.{all_digits_from_lower, one_canonical}
use Rattle.s2id_core.proofs.Digits.{shifted_value}
use Rattle.s2ix_text_parts.specs.declared.front.TheConstants.{LOWER_VALUES}

-- ---- the table of lower-case digits

-- what a byte is worth by the table
abbrev lower_value : ℕ → ℕ
lower_value c = cond (nat_le 65 c && nat_le c 90) 16 (min 16 (digit_value c))

table_is_rule : LOWER_VALUES ≡ map lower_value (range_with_len 0 256)
table_is_rule = refl

rule_of_lower : (c : ℕ) → IsLowerHex c → lower_value c ≡ digit_value c
rule_of_lower c lower = grind (arith, nat_tests)

rule_of_other : (c : ℕ) → ¬ IsLowerHex c → lower_value c ≡ 16
rule_of_other c other = grind (arith, nat_tests)

worth_by_rule : (c : ℕ) → c < 256 → get_or LOWER_VALUES c 0 ≡ lower_value c
worth_by_rule c h = ap (λ (l : List ℕ). get_or l c 0) table_is_rule ∙ get_or-map-range_with_len lower_value 0 256 c c 0 h (omega arith)

pub worth_of_lower : (c : ℕ) → c < 256 → IsLowerHex c → get_or LOWER_VALUES c 0 ≡ digit_value c
worth_of_lower c h lower = worth_by_rule c h ∙ rule_of_lower c lower

pub worth_of_other : (c : ℕ) → c < 256 → ¬ IsLowerHex c → get_or LOWER_VALUES c 0 ≡ 16
worth_of_other c h other = worth_by_rule c h ∙ rule_of_other c other

-- what the test of a digit's worth tells
pub lower_when : (c digit : ℕ) → (IsLowerHex c → digit ≡ digit_value c) → (¬ IsLowerHex c → digit ≡ 16) → digit < 16
    → IsLowerHex c × (digit ≡ digit_value c)
lower_when c digit value other small =
    let no : ¬ IsLowerHex c → ⊥ = λ none. omega (arith, other none, small) in
    let lower : IsLowerHex c =
    ⊎_elim
    (λ low. absurd (no (λ l. omega (arith, l, low))))
    (λ from. ⊎_elim
    (λ within. inl (from, omega (arith, within)))
    (λ above. ⊎_elim
    (λ gap. absurd (no (λ l. omega (arith, l, above, gap))))
    (λ letter. ⊎_elim (λ within. inr (letter, omega (arith, within))) (λ over. absurd (no (λ l. omega (arith, l, over)))) (cases_lt c 103))
    (cases_lt c 97))
    (cases_lt c 58))
    (cases_lt c 48) in
    (lower, value lower)

pub decimal_when : (c digit : ℕ) → (digit_value c < 10 → digit ≡ digit_value c) → (10 ≤ digit_value c → 10 ≤ digit) → digit < 10
    → digit ≡ digit_value c
decimal_when c digit value other small = ⊎_elim value (λ none. absurd (omega (arith, other none))) (cases_lt (digit_value c) 10)

-- ---- a text cut after some bytes

pub cut_after : (text : List ℕ) (len x d : ℕ) → len < length text → get_or text len d ≡ x → text ≡ take len text ++ x ∷ drop (len + 1) text
cut_after text len x d inside is =
    sym (take-append-drop len text)
    ∙ ap (λ rest. take len text ++ rest) (drop_more text len d inside ∙ ap (λ byte. byte ∷ drop (len + 1) text) is)

-- ---- one digit more

pub lower_more : (text : List ℕ) (place number digit : ℕ) → place < length text → All IsLowerHex (take place text)
    → number ≡ digits_value 16 (take place text)
    → IsLowerHex (get_or text place 0) × (digit ≡ digit_value (get_or text place 0))
    → All IsLowerHex (take (place + 1) text) × (number * 16 + digit ≡ digits_value 16 (take (place + 1) text))
lower_more text place number digit inside lower is next = (
  subst (All IsLowerHex) (sym (take_more text place 0 inside)) (All-push IsLowerHex (take place text) (get_or text place 0) lower next.0),
  ap (λ n. n * 16 + digit) is ∙ ap (λ n. digits_value 16 (take place text) * 16 + n) next.1 ∙ sym (digits_value_more 16 text place inside),
)

decimals : IsNumeralModel (AllDigits 10) (digits_value 10)
decimals = numerals_by_value (AllDigits 10) tells_digits

pub decimal_more : (text : List ℕ) (place number digit : ℕ) → place < length text → AllDigits 10 (take place text)
    → number ≡ digits_value 10 (take place text) → digit < 10
    → digit ≡ digit_value (get_or text place 0)
    → AllDigits 10 (take (place + 1) text) × (number * 10 + digit ≡ digits_value 10 (take (place + 1) text))
decimal_more text place number digit inside all is small next = (
  digits_more 10 text place inside all (omega (arith, small, next)),
  ap (λ n. n * 10 + digit) is ∙ ap (λ n. digits_value 10 (take place text) * 10 + n) next ∙ sym (digits_value_more 10 text place inside),
)

-- and it fits

pub lower_fits : (text : List ℕ) (place number : ℕ) → place < 16 → place < length text → All IsLowerHex (take place text)
    → number ≡ digits_value 16 (take place text) → number < 2 ^ 60
lower_fits text place number within_limit inside lower is =
    let below = digits_value-lt 16 (take place text) (all_digits_from_lower (take place text) lower) in
    let long : length (take place text) ≡ place = length-take-le place text (omega arith) in
    let below_pow : number < 16 ^ place = subst (λ k. number < 16 ^ k) long (omega arith) in
    let most : 16 ^ place ≤ 16 ^ 15 = pow-le-pow_right {n = 16} (omega arith) {i = place} {j = 15} (omega arith) in
    omega arith

pub decimal_fits : (text : List ℕ) (place number most : ℕ) → place ≤ most → place < length text → AllDigits 10 (take place text)
    → number ≡ digits_value 10 (take place text) → number < 10 ^ most
decimal_fits text place number most within_limit inside all is =
    let long : length (take place text) ≡ place = length-take-le place text (omega arith) in
    let below = digits_value_short decimals (take place text) place all (omega arith) in
    let up : 10 ^ place ≤ 10 ^ most = pow-le-pow_right {n = 10} (omega arith) {i = place} {j = most} within_limit in
    omega arith

-- ---- the whole front

-- a byte that is less 48, as the code takes it off
pub decimal_of_less : (byte d : ℕ) → (48 ≤ byte → d + 48 ≡ byte) → digit_value byte < 10 → d ≡ digit_value byte
decimal_of_less byte d less small =
    let digit = digit_from_value byte small in let own = digit_value_digit byte digit in omega (arith, digit, own, less)

pub other_of_less : (byte d : ℕ) → byte < 256 → (48 ≤ byte → d + 48 ≡ byte) → (byte < 48 → d ≡ byte + 208) → 10 ≤ digit_value byte → 10 ≤ d
other_of_less byte d within less wraps large =
    ⊎_elim
    (λ small.
    let from : 48 ≤ byte = ⊎_elim (λ low. absurd (omega (arith, wraps low, small))) (λ is. is) (cases_lt byte 48) in
    let own = digit_value_digit byte (from, omega (arith, less from, small)) in
    omega (arith, own, less from, large))
    (λ enough. enough)
    (cases_lt d 10)

pub number_of_front : (text : List ℕ) (len number end : ℕ) → 0 < len → len ≤ 9 → len < length text → AllDigits 10 (take len text)
    → number ≡ digits_value 10 (take len text)
    → (get_or text 0 0 ≡ 48 → len ≡ 1) → get_or text len 0 ≡ end → text ≡ decimal number ++ end ∷ drop (len + 1) text
number_of_front text len number end some within_limit inside all is no_zero here =
    let long : length (take len text) ≡ len = length-take-le len text (omega arith) in
    let fits = decimal_fits text len number 9 within_limit inside all is in
    let digits : decimal (digits_value 10 (take len text)) ≡ take len text =
    decimal-digits_value decimals (take len text) all (omega arith)
    (λ zero. long ∙ no_zero (sym (get_or-take len text 0 0 some) ∙ zero))
    (omega (arith, fits, is)) in
    cut_after text len end 0 inside here
    ∙ ap (λ front. front ++ end ∷ drop (len + 1) text) (sym digits ∙ ap decimal (sym is))

pub token_of_front : (text : List ℕ) (len number raw : ℕ) → 0 < len → len ≤ 16 → len < length text → All IsLowerHex (take len text)
    → number ≡ digits_value 16 (take len text)
    → raw ≡ number * 2 ^ (64 - 4 * len) % 2 ^ 64 → IsCellNumber raw → get_or text (len - 1) 0 ≢ 48 → get_or text len 0 ≡ 32
    → text ≡ canonical_token raw ++ 32 ∷ drop (len + 1) text
token_of_front text len number raw some within_limit inside lower is shifted cell last here =
    let front = take len text in
    let long : length front ≡ len = length-take-le len text (omega arith) in
    let all = all_digits_from_lower front lower in
    let spelled : Spells front raw = record {
      some = omega arith;
      at_most = omega arith;
      digits = all;
      value = sym (shifted ∙ ap (λ k. number * 2 ^ (64 - 4 * k) % 2 ^ 64) (sym long) ∙ shifted_value front number (omega arith) all is);
    } in
    let canonical : IsCanonicalText front = record {
      lower = lower;
      no_last_zero =
          λ zero. last (sym (get_or-take len text (len - 1) 0 (omega arith)) ∙ ap (λ k. get_or front (k - 1) 0) (sym long) ∙ zero);
    } in
    cut_after text len 32 0 inside here
    ∙ ap (λ x. x ++ 32 ∷ drop (len + 1) text) ((one_canonical front raw cell spelled).0 canonical)
