-- A text cut at a byte: where it first stands, and where it doesn't stand at all.
use Rattle.std.proofs.Common.{◌≡◌, ◌==◌, ◌&&◌, ℕ, ◌+◌, ◌<◌, true, false, not, Option, Some, None, List, [], ◌∷◌, ◌++◌, All, length, take, drop, get_or, refl, sym, ap, ap₂, ◌∙◌, subst, arith}
use Rattle.std.specs.Prelude.{is_some, IfSome}
use Rattle.std.specs.List.{join_with_byte, list_all}
use Rattle.std.proofs.lemmas.Bool.{and_left, both_ways, eq-eqb, eqb-true, false_from_ne_true, ne_eqb}
use Rattle.std.proofs.lemmas.List.{drop_more, get_or-take, length-take-le, take-append-drop}
use Rattle.std.proofs.lemmas.List.Elements.{All-from_get_or, All-head, All-tail}
use Rattle.std.proofs.lemmas.List.Splits.{join_with_byte-slice_split, length-slice_split, slice_split_at, slice_split_none}
use Rattle.memchr.specs.Find.{IsFirstByte, is_byte}
use Rattle.s2ix_text_parts.specs.Lines.{has_parts, is_nil, lines_of, parts_of, pieces_at}

-- no byte of a text is x
abbrev pub Lacks : ℕ → List ℕ → Type 0
Lacks x text = All (λ byte. (byte == x) ≡ false) text

lacks_before : (x : ℕ) (text : List ℕ) (end : ℕ) → IsFirstByte (is_byte x) text (Some end) → Lacks x (take end text)
lacks_before x text end found =
    let inside : end < length text = found.0.high in
    let long : length (take end text) ≡ end = length-take-le end text (omega arith) in
    All-from_get_or (λ byte. (byte == x) ≡ false) (take end text) 0
    (λ k within.
    let below : k < end = omega arith in
    subst (λ byte. (byte == x) ≡ false) (sym (get_or-take end text k 0 below))
    (false_from_ne_true (get_or text k 0 == x) (found.0.before k (omega arith) below)))

-- what stands before the first x, and after it
pub cut_parts : (x : ℕ) (text : List ℕ) (end : ℕ) → IsFirstByte (is_byte x) text (Some end)
    → text ≡ take end text ++ x ∷ drop (end + 1) text
cut_parts x text end found =
    let inside : end < length text = found.0.high in
    let is : get_or text end 0 ≡ x = eqb-true (get_or text end 0) x found.1 in
    sym (take-append-drop end text)
    ∙ ap (λ rest. take end text ++ rest) (drop_more text end 0 inside ∙ ap (λ byte. byte ∷ drop (end + 1) text) is)

pub pieces_cut : (x : ℕ) (text : List ℕ) (end : ℕ) → IsFirstByte (is_byte x) text (Some end)
    → pieces_at x text ≡ take end text ∷ pieces_at x (drop (end + 1) text)
pieces_cut x text end found =
    ap (pieces_at x) (cut_parts x text end found)
    ∙ slice_split_at (λ byte. byte == x) (take end text) x (drop (end + 1) text) (lacks_before x text end found) (eq-eqb x x refl)

pub pieces_none : (x : ℕ) (text : List ℕ) → IsFirstByte (is_byte x) text None → pieces_at x text ≡ text ∷ []
pieces_none x text none =
    slice_split_none (λ byte. byte == x) text
    (All-from_get_or (λ byte. (byte == x) ≡ false) text 0
    (λ k within. false_from_ne_true (get_or text k 0 == x) (none k (omega arith) within)))

-- a text is cut in one way at the first x
pub one_cut : (x : ℕ) (a b r s : List ℕ) → Lacks x a → Lacks x b → a ++ x ∷ r ≡ b ++ x ∷ s → (a ≡ b) × (r ≡ s)
one_cut x [] [] r s none_a none_b is = (refl, ap (drop 1) is)
one_cut x [] (y ∷ b) r s none_a none_b is =
    let Other : ℕ → Type 0 = λ byte. (byte == x) ≡ false in
    let here : x ≡ y = ap (λ t. get_or t 0 0) is in
    absurd (both_ways (y == x) (All-head Other y b none_b) (eq-eqb y x (sym here)))
one_cut x (y ∷ a) [] r s none_a none_b is =
    let Other : ℕ → Type 0 = λ byte. (byte == x) ≡ false in
    let here : y ≡ x = ap (λ t. get_or t 0 0) is in
    absurd (both_ways (y == x) (All-head Other y a none_a) (eq-eqb y x here))
one_cut x (y ∷ a) (z ∷ b) r s none_a none_b is =
    let Other : ℕ → Type 0 = λ byte. (byte == x) ≡ false in
    let rest = one_cut x a b r s (All-tail Other y a none_a) (All-tail Other z b none_b) (ap (drop 1) is) in
    (ap₂ (λ h t. h ∷ t) (ap (λ t. get_or t 0 0) is) rest.0, rest.1)

-- ---- how many parts

pub some_parts : (line : List ℕ) → 0 < length (parts_of line)
unfolding parts_of
some_parts line = omega (arith, length-slice_split (λ byte. byte == 32) line)

-- four parts or more are not three
pub not_three : (line third : List ℕ) (first second fourth rest : List ℕ) → parts_of line ≡ first ∷ second ∷ parts_of third
    → parts_of third ≡ fourth ∷ parts_of rest → has_parts 3 line ≡ false
not_three line third first second fourth rest two more =
    let long : length (parts_of line) ≡ 3 → ⊥ = λ three. omega (arith, three, ap length two, ap length more, some_parts rest) in
    and_left (length (parts_of line) == 3) _ (ne_eqb _ _ long)

-- ---- parts put together

pub parts_joined : (line a b c : List ℕ) → parts_of line ≡ a ∷ b ∷ c ∷ [] → line ≡ a ++ 32 ∷ (b ++ 32 ∷ c)
unfolding parts_of
parts_joined line a b c are = sym (join_with_byte-slice_split 32 line) ∙ ap (join_with_byte 32) are

pub lines_joined : (text : List ℕ) → join_with_byte 10 (lines_of text) ≡ text
unfolding lines_of
lines_joined text = join_with_byte-slice_split 10 text

pub parts_apart : (a b c : List ℕ) → Lacks 32 a → Lacks 32 b → Lacks 32 c → parts_of (a ++ 32 ∷ (b ++ 32 ∷ c)) ≡ a ∷ b ∷ c ∷ []
unfolding parts_of
parts_apart a b c no_a no_b no_c =
    slice_split_at (λ byte. byte == 32) a 32 (b ++ 32 ∷ c) no_a refl
    ∙ ap (λ more. a ∷ more)
    (slice_split_at (λ byte. byte == 32) b 32 c no_b refl ∙ ap (λ more. b ∷ more) (slice_split_none (λ byte. byte == 32) c no_c))

pub lines_apart : (line rest : List ℕ) → Lacks 10 line → lines_of (line ++ 10 ∷ rest) ≡ line ∷ lines_of rest
unfolding lines_of
lines_apart line rest none = slice_split_at (λ byte. byte == 10) line 10 rest none refl

-- some bytes are not nothing
pub is_some_text : (text : List ℕ) → 0 < length text → is_nil text ≡ false
is_some_text [] some = absurd (omega arith)
is_some_text (byte ∷ text) some = refl

pub three_from_parts : (line a b c : List ℕ) → parts_of line ≡ a ∷ b ∷ c ∷ [] → is_nil a ≡ false → is_nil b ≡ false → is_nil c ≡ false
    → has_parts 3 line ≡ true
three_from_parts line a b c are some_a some_b some_c =
    ap (λ (ps : List (List ℕ)). (length ps == 3) && list_all (λ text. not (is_nil text)) ps) are ∙ rw (some_a, some_b, some_c) refl

pub lines_some : (text : List ℕ) → is_nil (lines_of text) ≡ false
unfolding lines_of
lines_some text = some_list (pieces_at 10 text) (omega (arith, length-slice_split (λ byte. byte == 10) text))
  where
    some_list : (lines : List (List ℕ)) → 0 < length lines → is_nil lines ≡ false
    some_list [] some = absurd (omega arith)
    some_list (line ∷ lines) some = refl

-- the value of an answer that has one, with what a clause says of it
pub some_value : {A : Type 0} (o : Option A) (P : A → Type 0) → is_some o ≡ true → IfSome o P → (x : A) × P x
some_value None P some clause = cc
some_value (Some x) P some clause = (x, clause)
