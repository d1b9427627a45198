-- Plain texts, character by character.
use Rattle.std.proofs.Common.{◌≡◌, ◌⊎◌, inl, inr, ℕ, ◌≤◌, ◌<◌, ◌++◌, Bool, true, false, cond, nat_lt, List, [], ◌∷◌, All, refl, sym, ap, subst, ◌∙◌, append-nil, flat_map, take, arith, if◌then◌else◌, OnOk, Result, Ok, Err}
use Rattle.std.proofs.Math.Utf8.{encode, low_scalar}
use Rattle.std.proofs.lemmas.Bool.{ltb-false, ltb-true}
use Rattle.std.proofs.lemmas.Bool.Decides.{nat_tests}
use Rattle.std.proofs.lemmas.Str.{chars-append, chars-nil, chars_past_char, IsUtf8-encode}
use Rattle.std.proofs.lemmas.List.Elements.{All-append, All-cons, All-nil}
use Rattle.std.specs.Char.{IsScalar}
use Rattle.std.specs.Char.Escape.{escape_ascii, escape_default, escape_unicode, escape_or, short_escape, hex_digit_at, backslash}
use Rattle.std.specs.Result.{is_ok}
use Rattle.std.specs.declared.alloc.AllocError.{AllocError}
use Rattle.std.specs.Str.{IsUtf8, chars}
use Rattle.s2ix_cli_words.specs.Shown.{IsPlain, ArePlain}

-- the characters of one character's bytes
chars-one : (c : ℕ) → IsScalar c → chars (encode c) ≡ c ∷ []
chars-one c scalar = chars_past_char (encode c) [] c (IsUtf8-encode c scalar) (sym (append-nil (encode c))) ∙ ap (λ cs. c ∷ cs) chars-nil

-- the empty text is plain
pub nothing-plain : ArePlain []
nothing-plain = subst (All IsPlain) (sym chars-nil) (All-nil IsPlain)

-- a plain text with one plain character more
pub plain-push : (text : List ℕ) (c : ℕ) → IsUtf8 text → IsScalar c → ArePlain text → IsPlain c → ArePlain (text ++ encode c)
plain-push text c utf8 scalar plain is =
    subst (All IsPlain) (sym (chars-append text (encode c) utf8))
    (All-append IsPlain (chars text) (chars (encode c)) plain
    (subst (All IsPlain) (sym (chars-one c scalar)) (All-cons IsPlain c [] is (All-nil IsPlain))))

-- ASCII that prints
abbrev pub IsPrintable : ℕ → Type 0
IsPrintable c = (32 ≤ c) × (c < 127)

pub printable-plain : (c : ℕ) → IsPrintable c → IsPlain c
printable-plain c is = inl (grind (arith, nat_tests, is.0, is.1))

pub printable-scalar : (c : ℕ) → IsPrintable c → IsScalar c
printable-scalar c is = low_scalar c (omega (arith, is.1))

between : (c : ℕ) → 32 ≤ c → c < 127 → IsPrintable c
between c low high = (low, high)

digit-printable : (p c : ℕ) → IsPrintable (hex_digit_at p c)
digit-printable p c = (grind (arith, nat_tests), grind (arith, nat_tests))

-- a choice between printable texts is printable
chosen-printable : (b : Bool) (xs ys : List ℕ) → (b ≡ true → All IsPrintable xs) → (b ≡ false → All IsPrintable ys) → All IsPrintable (cond b xs ys)
chosen-printable true xs ys is other = is refl
chosen-printable false xs ys is other = other refl

digits-printable : (p c : ℕ) (xs : List ℕ) → All IsPrintable xs → All IsPrintable (hex_digit_at p c ∷ xs)
digits-printable p c xs rest = All-cons IsPrintable (hex_digit_at p c) xs (digit-printable p c) rest

shut-printable : All IsPrintable (125 ∷ [])
shut-printable = All-cons IsPrintable 125 [] (between 125 (omega arith) (omega arith)) (All-nil IsPrintable)

code-printable : (xs : List ℕ) → All IsPrintable xs → All IsPrintable (backslash ∷ 117 ∷ 123 ∷ xs)
code-printable xs rest = All-cons IsPrintable backslash (117 ∷ 123 ∷ xs) (between 92 (omega arith) (omega arith))
    (All-cons IsPrintable 117 (123 ∷ xs) (between 117 (omega arith) (omega arith))
    (All-cons IsPrintable 123 xs (between 123 (omega arith) (omega arith)) rest))

unicode-printable : (c : ℕ) → All IsPrintable (escape_unicode c)
unicode-printable c =
    let one : List ℕ = hex_digit_at 1 c ∷ 125 ∷ [] in
    let two : List ℕ = hex_digit_at 0x10 c ∷ one in
    let three : List ℕ = hex_digit_at 0x100 c ∷ two in
    let four : List ℕ = hex_digit_at 0x1000 c ∷ three in
    let five : List ℕ = hex_digit_at 0x1_0000 c ∷ four in
    let six : List ℕ = hex_digit_at 0x10_0000 c ∷ five in
    let code : List ℕ → List ℕ = λ digits. backslash ∷ 117 ∷ 123 ∷ digits in
    let one_is : All IsPrintable one = digits-printable 1 c (125 ∷ []) shut-printable in
    let two_is : All IsPrintable two = digits-printable 0x10 c one one_is in
    let three_is : All IsPrintable three = digits-printable 0x100 c two two_is in
    let four_is : All IsPrintable four = digits-printable 0x1000 c three three_is in
    let five_is : All IsPrintable five = digits-printable 0x1_0000 c four four_is in
    let six_is : All IsPrintable six = digits-printable 0x10_0000 c five five_is in
    let from_five : List ℕ = cond (nat_lt c 0x10_0000) (code five) (code six) in
    let from_four : List ℕ = cond (nat_lt c 0x1_0000) (code four) from_five in
    let from_three : List ℕ = cond (nat_lt c 0x1000) (code three) from_four in
    let from_two : List ℕ = cond (nat_lt c 0x100) (code two) from_three in
    chosen-printable (nat_lt c 0x10) (code one) from_two (λ _. code-printable one one_is) (λ _.
    chosen-printable (nat_lt c 0x100) (code two) from_three (λ _. code-printable two two_is) (λ _.
    chosen-printable (nat_lt c 0x1000) (code three) from_four (λ _. code-printable three three_is) (λ _.
    chosen-printable (nat_lt c 0x1_0000) (code four) from_five (λ _. code-printable four four_is) (λ _.
    chosen-printable (nat_lt c 0x10_0000) (code five) (code six) (λ _. code-printable five five_is) (λ _. code-printable six six_is)))))

letter_bounds : (c : ℕ) → 0 < short_escape c → (32 ≤ short_escape c) × (short_escape c < 127)
letter_bounds c is = grind (arith, nat_tests)

letter-printable : (c : ℕ) → 0 < short_escape c → All IsPrintable (backslash ∷ short_escape c ∷ [])
letter-printable c is =
    let bounds = letter_bounds c is in
    All-cons IsPrintable backslash (short_escape c ∷ []) (between 92 (omega arith) (omega arith))
    (All-cons IsPrintable (short_escape c) [] (between (short_escape c) bounds.0 bounds.1) (All-nil IsPrintable))

-- an escape, if the one that is left to other characters prints
or-printable : (c : ℕ) (other : List ℕ) → All IsPrintable other → All IsPrintable (escape_or c other)
or-printable c other is =
    let high : List ℕ = cond (nat_lt c 127) (c ∷ []) other in
    chosen-printable (nat_lt 0 (short_escape c)) (backslash ∷ short_escape c ∷ []) (cond (nat_lt c 32) other high) (λ letter. letter-printable c (ltb-true 0 (short_escape c) letter)) (λ _.
    chosen-printable (nat_lt c 32) other high (λ _. is) (λ low.
    chosen-printable (nat_lt c 127) (c ∷ []) other (λ below. All-cons IsPrintable c [] (between c (ltb-false c 32 low) (ltb-true c 127 below)) (All-nil IsPrintable)) (λ _. is)))

-- the escape of a character prints
pub escape_printable : (c : ℕ) → All IsPrintable (escape_default c)
escape_printable c = or-printable c (escape_unicode c) (unicode-printable c)

-- the escape of a byte prints
pub byte-printable : (b : ℕ) → All IsPrintable (escape_ascii b)
byte-printable b =
    let low : List ℕ = hex_digit_at 1 b ∷ [] in
    let digits : List ℕ = hex_digit_at 0x10 b ∷ low in
    or-printable b (backslash ∷ 120 ∷ digits)
    (All-cons IsPrintable backslash (120 ∷ digits) (between 92 (omega arith) (omega arith))
    (All-cons IsPrintable 120 digits (between 120 (omega arith) (omega arith))
    (digits-printable 0x10 b low (digits-printable 1 b [] (All-nil IsPrintable)))))

-- what is left of a word in escapes: the escape in hand, and the bytes after it
abbrev pub left_in : List ℕ → List ℕ → List ℕ
left_in escape bytes = escape ++ flat_map escape_ascii bytes

-- the next character of the escape in hand, or of the next byte's
abbrev pub IsNextOf : ℕ → List ℕ → List ℕ → List ℕ → List ℕ → Type 0
IsNextOf x escape bytes escape_after bytes_after = ((escape ≡ x ∷ escape_after) × (bytes_after ≡ bytes))
    ⊎ ((escape ≡ []) × ((b : ℕ) × (bytes ≡ b ∷ bytes_after) × (escape_ascii b ≡ x ∷ escape_after)))

pub next-left : (x : ℕ) (escape bytes escape_after bytes_after : List ℕ) → All IsPrintable escape → IsNextOf x escape bytes escape_after bytes_after
    → (left_in escape bytes ≡ x ∷ left_in escape_after bytes_after) × All IsPrintable (x ∷ escape_after)
next-left x escape bytes escape_after bytes_after printable (inl is) =
    (ap (λ e. left_in e bytes) is.0 ∙ ap (λ bs. x ∷ left_in escape_after bs) (sym is.1), subst (All IsPrintable) is.0 printable)
next-left x escape bytes escape_after bytes_after printable (inr is) =
    let b = is.1.0 in (
      ap (λ e. left_in e bytes) is.0 ∙ ap (λ bs. left_in [] bs) is.1.1 ∙ ap (λ e. e ++ flat_map escape_ascii bytes_after) is.1.2,
      subst (All IsPrintable) is.1.2 (byte-printable b),
    )

-- of no bytes of a buffer none are left
pub nothing-left : {A B : Type 0} (n : ℕ) (buffer : List ℕ) → A ⊎ ((n ≡ 0) × B) → A ⊎ ((take n buffer ≡ []) × B)
nothing-left n buffer (inl is) = inl is
nothing-left n buffer (inr is) = inr (ap (λ k. take k buffer) is.0, is.1)

-- a text that grew if a push succeeded
pub pushed-plain : (r : Result (Unit {0}) AllocError) (old more new : List ℕ) → new ≡ (if is_ok r then more else old) → ArePlain more → OnOk r (ArePlain new)
pushed-plain (Ok u) old more new is plain = subst ArePlain (sym is) plain
pushed-plain (Err e) old more new is plain = tt
