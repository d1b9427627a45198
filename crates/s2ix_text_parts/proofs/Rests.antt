-- What is left of a text, and what tests of it tell.
use Rattle.std.proofs.Common.{◌≡◌, ◌==◌, ℕ, suc, ◌-◌, Bool, true, false, not, ◌||◌, Some, List, [], ◌∷◌, ◌++◌, length, refl, sym, ap, ap₂, ◌∙◌, arith}
use Rattle.std.specs.Prelude.{slice_get}
use Rattle.std.specs.List.{join_with_byte}
use Rattle.std.specs.Str.{bytes_eq}
use Rattle.std.proofs.lemmas.Bool.{both_ways, eqb-true, not-false, not-true}
use Rattle.std.proofs.lemmas.List.{nil_from_length}
use Rattle.std.proofs.lemmas.Slice.Eq.{bytes_eq-Decides}
use Rattle.s2ix_text_parts.specs.Lines.{is_nil, last_of, lines_of, part}
use Rattle.s2ix_text_parts.proofs.Pieces.{lines_joined}

-- the last of a list, as `last` reads it
pub last_read : {A : Type 0} (xs : List A) → slice_get xs (length xs - 1) ≡ last_of xs
last_read [] = refl
last_read (x ∷ []) = refl
last_read (x ∷ (y ∷ xs)) =
    let step : length (x ∷ (y ∷ xs)) - 1 ≡ suc (length (y ∷ xs) - 1) = omega arith in
    ap (slice_get (x ∷ (y ∷ xs))) step ∙ last_read (y ∷ xs)

pub last_pushed : {A : Type 0} (xs : List A) (x : A) → last_of (xs ++ x ∷ []) ≡ Some x
last_pushed [] x = refl
last_pushed (y ∷ []) x = refl
last_pushed (y ∷ (z ∷ xs)) x = last_pushed (z ∷ xs) x

-- ---- lines

pub some_left : (lines : List (List ℕ)) (line : List ℕ) (more : List (List ℕ)) → is_nil (lines ++ line ∷ more) ≡ false
some_left [] line more = refl
some_left (first ∷ lines) line more = refl

pub some_joined : (lines more : List (List ℕ)) → is_nil more ≡ false → is_nil (lines ++ more) ≡ false
some_joined [] more some = some
some_joined (first ∷ lines) more some = refl

pub lines_split : (lines : List (List ℕ)) → is_nil lines ≡ false → (last : List ℕ) × (more : List (List ℕ)) × (lines ≡ last ∷ more)
lines_split [] some = cc
lines_split (last ∷ more) some = (last, more, refl)

-- what is left, if it has bytes
pub some_after : (below last : List ℕ) (lines : List (List ℕ)) → is_nil below ≡ false → lines_of below ≡ last ∷ lines
    → (not (is_nil lines) || not (is_nil last)) ≡ true
some_after below last (line ∷ lines) some is = refl
some_after below (byte ∷ last) [] some is = refl
some_after below [] [] some is =
    let joined : below ≡ [] = sym (lines_joined below) ∙ ap (join_with_byte 10) is in
    let clash : false ≡ true = sym some ∙ ap is_nil joined in
    cc

pub join_more : (line : List ℕ) (lines : List (List ℕ)) → is_nil lines ≡ false
    → join_with_byte 10 (line ∷ lines) ≡ line ++ 10 ∷ join_with_byte 10 lines
join_more line [] some = cc
join_more line (next ∷ lines) some = refl

pub no_lines : lines_of [] ≡ [] ∷ []
unfolding lines_of
no_lines = refl

-- ---- tests

pub first_test : (line first word with : List ℕ) (r : Bool) → r ≡ bytes_eq first word → first ≡ part 0 line → word ≡ with
    → r ≡ bytes_eq (part 0 line) with
first_test line first word with r is first_is word_is = is ∙ ap₂ (λ (x y : List ℕ). bytes_eq x y) first_is word_is

pub some_test : (text : List ℕ) (r : Bool) → r ≡ (length text == 0) → r ≡ false → is_nil text ≡ false
some_test [] r is fails = let clash : true ≡ false = sym is ∙ fails in cc
some_test (byte ∷ text) r is fails = refl

pub none_test : (text : List ℕ) (r : Bool) → r ≡ (length text == 0) → r ≡ true → text ≡ []
none_test text r is holds = nil_from_length text (eqb-true (length text) 0 (sym is ∙ holds))

-- what `!=` tells
pub differs : (xs ys : List ℕ) (r : Bool) → r ≡ not (bytes_eq xs ys) → r ≡ true → xs ≡ ys → ⊥
differs xs ys r is holds same = both_ways (bytes_eq xs ys) (not-true (bytes_eq xs ys) (sym is ∙ holds)) ((bytes_eq-Decides xs ys).1 same)

pub agrees : (xs ys : List ℕ) (r : Bool) → r ≡ not (bytes_eq xs ys) → r ≡ false → xs ≡ ys
agrees xs ys r is fails = (bytes_eq-Decides xs ys).0 (not-false (bytes_eq xs ys) (sym is ∙ fails))
