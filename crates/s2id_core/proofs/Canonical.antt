-- The canonical token: it spells its number, and no other text of its kind does.
use Rattle.std.proofs.Common.{◌≡◌, ◌≢◌, ◌==◌, ◌↔◌, ℕ, zero, suc, ◌+◌, ◌-◌, ◌*◌, ◌/◌, ◌%◌, ◌^◌, ◌<◌, ◌≤◌, List, [], ◌∷◌, ◌++◌, All, length, map, take, drop, replicate, reverse, get_or, sym, ◌∙◌, ap, ap₂, refl, arith, subst, true, false}
use Rattle.std.specs.Char.{digit_char, digit_value}
use Rattle.std.specs.Int.{w64, trailing_zeros}
use Rattle.std.specs.List.{range_with_len, suffix_len}
use Rattle.std.specs.Prelude.{IsUtf8}
use Rattle.std.specs.Str.Parse.{AllDigits, digits_value, digits_value_after}
use Rattle.std.proofs.lemmas.Bool.Decides.{nat_tests}
use Rattle.std.proofs.lemmas.Nat.{shr-shr}
use Rattle.std.proofs.lemmas.List.{get_or-reverse, length-reverse, length-append, length-replicate, get_or-replicate, get_or-drop, length-drop, length-take-le, take-append-drop, take_at, ext_get_or, get_or_append_left, get_or-append_right, get_or-take}
use Rattle.std.proofs.lemmas.List.Elements.{All-head, All-tail, All-from_get_or, All-append, All-replicate, All-take, All-weaker}
use Rattle.std.proofs.lemmas.List.Sums.{prefix_len_is, prefix_len_passes, prefix_len_stops, prefix_len-le-length}
use Rattle.std.proofs.lemmas.Str.{IsUtf8-from_ascii}
use Rattle.std.proofs.lemmas.Str.Ascii.{IsAscii-from_all}
use Rattle.s2id_core.specs.Cell.{IsCellNumber}
use Rattle.s2id_core.specs.Token.{sixteen_digits, without_last_zeros, canonical_token, Spells, IsLowerHex, IsCanonicalText}
use Rattle.s2id_core.proofs.Zeros.{odd_part}
use Rattle.s2id_core.proofs.Digits.{sixteen_pow}
use Rattle.s2id_core.proofs.Printing.{length-sixteen_digits, sixteen_digits_at, last_zeros}

-- ---- digits and their signs

value_of_sign : (d : ℕ) → d < 16 → digit_value (digit_char d) ≡ d
value_of_sign d h = grind (arith, nat_tests)

pub lower_sign : (d : ℕ) → d < 16 → IsLowerHex (digit_char d)
lower_sign d h = grind (arith, nat_tests)

sign_of_value : (c : ℕ) → IsLowerHex c → digit_char (digit_value c) ≡ c
sign_of_value c h = grind (arith, nat_tests)

value_below : (c : ℕ) → IsLowerHex c → digit_value c < 16
value_below c h = grind (arith, nat_tests)

pub all_digits_from_lower : (xs : List ℕ) → All IsLowerHex xs → AllDigits 16 xs
all_digits_from_lower [] h = tt
all_digits_from_lower (x ∷ xs) h = (value_below x (All-head IsLowerHex x xs h), all_digits_from_lower xs (All-tail IsLowerHex x xs h))

-- two texts of one length and one value are one
pub same_digits : (xs ys : List ℕ) (m n : ℕ) → length xs ≡ length ys → All IsLowerHex xs → All IsLowerHex ys
    → digits_value_after 16 m xs ≡ digits_value_after 16 n ys → (m ≡ n) × (xs ≡ ys)
same_digits [] [] m n l a b e = (e, refl)
same_digits [] (y ∷ ys) m n l a b e = absurd (omega arith)
same_digits (x ∷ xs) [] m n l a b e = absurd (omega arith)
same_digits (x ∷ xs) (y ∷ ys) m n l a b e =
    let lower_x = All-head IsLowerHex x xs a in
    let lower_y = All-head IsLowerHex y ys b in
    let rest = same_digits xs ys (m * 16 + digit_value x) (n * 16 + digit_value y) (omega arith) (All-tail IsLowerHex x xs a) (All-tail IsLowerHex y ys b) e in
    let small_x = value_below x lower_x in
    let small_y = value_below y lower_y in
    let heads : m * 16 + digit_value x ≡ n * 16 + digit_value y = rest.0 in
    let values : digit_value x ≡ digit_value y = omega arith in
    (omega arith, ap₂ (λ h t. h ∷ t) (sym (sign_of_value x lower_x) ∙ ap digit_char values ∙ sign_of_value y lower_y) rest.1)

-- ---- sixteen digits

pub lower-sixteen_digits : (n : ℕ) → All IsLowerHex (sixteen_digits n)
lower-sixteen_digits n =
    All-from_get_or IsLowerHex (sixteen_digits n) 0
    (λ place h.
    let long = length-sixteen_digits n in
    let within : place < 16 = omega arith in
    subst IsLowerHex (sym (sixteen_digits_at n place within)) (lower_sign (n / 16 ^ (15 - place) % 16) (omega arith)))

next_digit : (n j : ℕ) → n / 16 ^ suc j * 16 + n / 16 ^ j % 16 ≡ n / 16 ^ j
next_digit n j =
    let e : n / 16 ^ suc j ≡ n / 16 ^ j / 16 = ap (λ x. n / x) (sym (sixteen_pow (suc j)) ∙ ap (λ x. 2 ^ x) (let s : 4 * suc j ≡ 4 * j + 4 = omega arith in s)) ∙ sym (shr-shr n (4 * j) 4) ∙ ap (λ x. n / x / 16) (sixteen_pow j) in
    ap (λ x. x * 16 + n / 16 ^ j % 16) e ∙ whole (n / 16 ^ j)
  where
    whole : (q : ℕ) → q / 16 * 16 + q % 16 ≡ q
    whole q = omega arith

value_from : (n j a : ℕ) → a + j ≡ 16
    → digits_value_after 16 (n / 16 ^ j) (map (λ place. digit_char (n / 16 ^ (15 - place) % 16)) (range_with_len a j)) ≡ n
value_from n zero a e = omega arith
value_from n (suc j) a e =
    let digit : digit_value (digit_char (n / 16 ^ (15 - a) % 16)) ≡ n / 16 ^ j % 16 = value_of_sign (n / 16 ^ (15 - a) % 16) (omega arith) ∙ ap (λ x. n / 16 ^ x % 16) (let s : 15 - a ≡ j = omega arith in s) in
    ap (λ x. digits_value_after 16 x (map (λ place. digit_char (n / 16 ^ (15 - place) % 16)) (range_with_len (a + 1) j))) (ap (λ x. n / 16 ^ suc j * 16 + x) digit ∙ next_digit n j) ∙ value_from n j (a + 1) (omega arith)

pub value-sixteen_digits : (n : ℕ) → n < 2 ^ 64 → digits_value 16 (sixteen_digits n) ≡ n
unfolding sixteen_digits
value-sixteen_digits n h =
    let none : 0 ≡ n / 16 ^ 16 = omega arith in
    ap (λ x. digits_value_after 16 x (map (λ place. digit_char (n / 16 ^ (15 - place) % 16)) (range_with_len 0 16))) none ∙ value_from n 16 0 refl

-- ---- zeros at the end, taken off and put back

eq_from_test : (x : ℕ) → (x == 48) ≡ true → x ≡ 48
eq_from_test x h = grind (arith, nat_tests)

test_from_eq : (x : ℕ) → x ≡ 48 → (x == 48) ≡ true
test_from_eq x h = grind (arith, nat_tests)

test_from_ne : (x : ℕ) → x ≢ 48 → (x == 48) ≡ false
test_from_ne x h = grind (arith, nat_tests)

ne_from_test : (x : ℕ) → (x == 48) ≡ false → x ≢ 48
ne_from_test x h = grind (arith, nat_tests)

abbrev zeros_at_end : List ℕ → ℕ
zeros_at_end text = suffix_len (λ byte. byte == 48) text

zeros_at_end-le : (text : List ℕ) → zeros_at_end text ≤ length text
zeros_at_end-le text =
    let l = length-reverse text in
    let h = prefix_len-le-length (λ byte. byte == 48) (reverse text) in
    omega arith

-- a byte among the zeros at the end
at_end : (text : List ℕ) (i : ℕ) → i < zeros_at_end text
    → get_or (drop (length text - zeros_at_end text) text) i 0 ≡ get_or (replicate (zeros_at_end text) 48) i 0
at_end text i h =
    let s = zeros_at_end text in
    let k = length text - s in
    let le = zeros_at_end-le text in
    let j = s - 1 - i in
    let from_back = get_or-reverse text j 0 (omega arith) in
    let passes = eq_from_test (get_or (reverse text) j 0) (prefix_len_passes (λ byte. byte == 48) (reverse text) j 0 (omega arith)) in
    get_or-drop k text i 0 ∙ ap (λ x. get_or text x 0) (let e : k + i ≡ length text - 1 - j = omega arith in e) ∙ sym from_back ∙ passes ∙ sym (get_or-replicate s i 48 0 h)

pub zeros_back : (text : List ℕ) → without_last_zeros text ++ replicate (zeros_at_end text) 48 ≡ text
unfolding without_last_zeros
zeros_back text =
    let s = zeros_at_end text in
    let k = length text - s in
    let le = zeros_at_end-le text in
    let rest : drop k text ≡ replicate s 48 = ext_get_or 0 (drop k text) (replicate s 48) (length-drop k text ∙ (let e : length text - k ≡ s = omega arith in e) ∙ sym (length-replicate {A = ℕ} s 48)) (λ i h. at_end text i (let l = length-drop k text in omega arith)) in
    ap (λ x. take k text ++ x) (sym rest) ∙ take-append-drop k text

-- after k zeros, from the end, stands the text's last byte
padded_last : (text : List ℕ) (k : ℕ) → 0 < length text → get_or (reverse (text ++ replicate k 48)) k 0 ≡ get_or text (length text - 1) 0
padded_last text k some =
    let padded = text ++ replicate k 48 in
    let long : length padded ≡ length text + k = length-append text (replicate k 48) ∙ ap (λ x. length text + x) (length-replicate {A = ℕ} k 48) in
    let at : length padded - 1 - k ≡ length text - 1 = omega arith in
    get_or-reverse padded k 0 (omega arith) ∙ ap (λ x. get_or padded x 0) at ∙ get_or_append_left text (replicate k 48) 0 (length text - 1) (omega arith)

pub zeros_off : (text : List ℕ) (k : ℕ) → 0 < length text → get_or text (length text - 1) 0 ≢ 48
    → without_last_zeros (text ++ replicate k 48) ≡ text
unfolding without_last_zeros
zeros_off text k some last =
    let zeros = replicate k 48 in
    let padded = text ++ zeros in
    let zeros_long : length zeros ≡ k = length-replicate {A = ℕ} k 48 in
    let long : length padded ≡ length text + k = length-append text zeros ∙ ap (λ x. length text + x) zeros_long in
    let back : length (reverse padded) ≡ length text + k = length-reverse padded ∙ long in
    let count : zeros_at_end padded ≡ k =
    prefix_len_is (λ byte. byte == 48) (reverse padded) k 0 (omega arith)
    (λ j h. test_from_eq (get_or (reverse padded) j 0) (get_or-reverse padded j 0 (omega arith) ∙ get_or-append_right text zeros (length text) (length padded - 1 - j) 0 refl (omega arith) ∙ get_or-replicate k (length padded - 1 - j - length text) 48 0 (omega arith)))
    (λ h. test_from_ne (get_or (reverse padded) k 0) (λ e. last (sym (padded_last text k some) ∙ e))) in
    ap (λ x. take (length padded - x) padded) count ∙ take_at text zeros (length padded - k) (let e : length text ≡ length padded - k = omega arith in e)

-- the last byte that is kept is no zero
last_kept : (text : List ℕ) → zeros_at_end text < length text
    → get_or (without_last_zeros text) (length (without_last_zeros text) - 1) 0 ≢ 48
unfolding without_last_zeros
last_kept text h =
    let s = zeros_at_end text in
    let k = length text - s in
    let long : length (take k text) ≡ k = length-take-le k text (omega arith) in
    let back = length-reverse text in
    let stops = ne_from_test (get_or (reverse text) s 0) (prefix_len_stops (λ byte. byte == 48) (reverse text) 0 (omega arith)) in
    λ e. stops
    (get_or-reverse text s 0 h ∙ ap (λ x. get_or text x 0) (let at : length text - 1 - s ≡ length (take k text) - 1 = omega arith in at) ∙ sym (get_or-take k text (length (take k text) - 1) 0 (omega arith)) ∙ e)

-- ---- the canonical token

pub canonical_back : (n : ℕ) → 0 < n → n < 2 ^ 64 → canonical_token n ++ replicate (trailing_zeros w64 n / 4) 48 ≡ sixteen_digits n
unfolding canonical_token
canonical_back n pos below = ap (λ x. without_last_zeros (sixteen_digits n) ++ replicate x 48) (sym (last_zeros n pos below)) ∙ zeros_back (sixteen_digits n)

pub length-canonical_token : (n : ℕ) → 0 < n → n < 2 ^ 64
    → (length (canonical_token n) ≡ 16 - trailing_zeros w64 n / 4) × (0 < length (canonical_token n)) × (length (canonical_token n) ≤ 16)
length-canonical_token n pos below =
    let whole = ap length (canonical_back n pos below) in
    let parts = length-append (canonical_token n) (replicate (trailing_zeros w64 n / 4) 48) in
    let zeros = length-replicate {A = ℕ} (trailing_zeros w64 n / 4) 48 in
    let all = length-sixteen_digits n in
    let t = (odd_part 64 n pos below).within in
    (omega arith, omega arith, omega arith)

pub lower-canonical_token : (n : ℕ) → All IsLowerHex (canonical_token n)
unfolding canonical_token without_last_zeros
lower-canonical_token n = All-take IsLowerHex (length (sixteen_digits n) - zeros_at_end (sixteen_digits n)) (sixteen_digits n) (lower-sixteen_digits n)

pub text-canonical_token : (n : ℕ) → IsUtf8 (canonical_token n)
text-canonical_token n =
    IsUtf8-from_ascii (canonical_token n) (IsAscii-from_all (canonical_token n) (All-weaker IsLowerHex (λ byte. byte < 128) (λ byte lower. omega arith) (canonical_token n) (lower-canonical_token n)))

pub canonical_spells : (n : ℕ) → IsCellNumber n → Spells (canonical_token n) n
canonical_spells n cell =
    let long = length-canonical_token n (omega arith) (omega arith) in
    let t = (odd_part 64 n (omega arith) (omega arith)).within in
    let rest : 16 - length (canonical_token n) ≡ trailing_zeros w64 n / 4 = omega arith in
    record {
      some = long.1;
      at_most = long.2;
      digits = all_digits_from_lower (canonical_token n) (lower-canonical_token n);
      value = ap (λ x. digits_value 16 (canonical_token n ++ replicate x 48)) rest ∙ ap (digits_value 16) (canonical_back n (omega arith) (omega arith)) ∙ value-sixteen_digits n (omega arith);
    }

canonical_is_canonical : (n : ℕ) → IsCellNumber n → IsCanonicalText (canonical_token n)
unfolding canonical_token
canonical_is_canonical n cell =
    let long = length-sixteen_digits n in
    let zeros = last_zeros n (omega arith) (omega arith) in
    let t = (odd_part 64 n (omega arith) (omega arith)).within in
    record { lower = lower-canonical_token n; no_last_zero = last_kept (sixteen_digits n) (omega arith) }

canonical_only : (text : List ℕ) (n : ℕ) → IsCellNumber n → Spells text n → IsCanonicalText text → text ≡ canonical_token n
unfolding canonical_token
canonical_only text n cell spells canonical =
    let padded = text ++ replicate (16 - length text) 48 in
    let at_most = spells.at_most in
    let long : length padded ≡ length (sixteen_digits n) = length-append text (replicate (16 - length text) 48) ∙ ap (λ x. length text + x) (length-replicate {A = ℕ} (16 - length text) 48) ∙ (let e : length text + (16 - length text) ≡ 16 = omega arith in e) ∙ sym (length-sixteen_digits n) in
    let lower : All IsLowerHex padded = All-append IsLowerHex text (replicate (16 - length text) 48) canonical.lower (All-replicate IsLowerHex (16 - length text) 48 (lower_sign 0 (omega arith))) in
    let same = same_digits padded (sixteen_digits n) 0 0 long lower (lower-sixteen_digits n) (spells.value ∙ sym (value-sixteen_digits n (omega arith))) in
    sym (zeros_off text (16 - length text) spells.some canonical.no_last_zero) ∙ ap without_last_zeros same.1

pub one_canonical : (text : List ℕ) (n : ℕ) → IsCellNumber n → Spells text n → (IsCanonicalText text ↔ (text ≡ canonical_token n))
one_canonical text n cell spells = (canonical_only text n cell spells, λ e. subst IsCanonicalText (sym e) (canonical_is_canonical n cell))

-- two cells that print one token have one number
pub one_token : (m n : ℕ) → IsCellNumber m → IsCellNumber n → canonical_token m ≡ canonical_token n → m ≡ n
one_token m n a b e =
    sym (canonical_spells m a).value ∙ ap (λ t. digits_value 16 (t ++ replicate (16 - length t) 48)) e ∙ (canonical_spells n b).value
