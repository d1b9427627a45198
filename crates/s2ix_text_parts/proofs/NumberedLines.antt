-- The lines of a text, by their numbers.
use Rattle.std.proofs.Common.{◌≡◌, ℕ, zero, suc, ◌-◌, ◌<◌, true, false, not, Option, Some, None, List, [], ◌∷◌, length, take, drop, refl, arith}
use Rattle.std.specs.Prelude.{is_none, slice_index_or}
use Rattle.std.proofs.lemmas.List.{length-drop}
use Rattle.s2ix_text_parts.specs.Lines.{is_nil}

-- the header above a line is the text's
pub same_header : (k : ℕ) (lines : List (List ℕ)) → is_nil (take k lines) ≡ false
    → slice_index_or (take k lines) 0 [] ≡ slice_index_or lines 0 []
same_header zero lines some = cc
same_header (suc k) [] some = cc
same_header (suc k) (line ∷ lines) some = refl

pub some_lines : (lines : List (List ℕ)) → is_nil lines ≡ false → 0 < length lines
some_lines [] some = cc
some_lines (line ∷ lines) some = omega arith

pub more_lines : (lines : List (List ℕ)) → not (is_nil (drop 1 lines)) ≡ true → 1 < length lines
more_lines [] more = cc
more_lines (line ∷ []) more = cc
more_lines (line ∷ (next ∷ lines)) more = omega arith

nil_length : (lines : List (List ℕ)) → is_nil lines ≡ true → length lines ≡ 0
nil_length [] none = refl
nil_length (line ∷ lines) none = cc

-- a line with nothing after it is the last
pub last_line : (lines : List (List ℕ)) (number : ℕ) → 0 < number → number - 1 < length lines → is_nil (drop number lines) ≡ true
    → number ≡ length lines
last_line lines number from inside none =
    let left = length-drop number lines in
    let nothing = nil_length (drop number lines) none in
    omega (arith, left, nothing, inside, from)

-- what is none
pub none_from : {A : Type 0} (o : Option A) → is_none o ≡ true → o ≡ None
none_from None is = refl
none_from (Some x) is = cc
