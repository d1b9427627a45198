-- How the fields of a line stand in it: white space, a field, white space, a field, and so on.
use Rattle.std.proofs.Common.{◌≡◌, ◌≢◌, ℕ, zero, suc, ◌+◌, ◌-◌, ◌<◌, ◌≤◌, Bool, true, false, Some, None, List, [], ◌∷◌, ◌++◌, All, length, take, drop, refl, sym, ap, subst, ◌∙◌, arith, length-drop, take_all}
use Rattle.std.specs.Prelude.{slice_index}
use Rattle.std.specs.Char.{is_whitespace}
use Rattle.std.proofs.lemmas.List.{drop-drop, drop-take, take-append-drop, length-take-le, get_or-take}
use Rattle.std.proofs.lemmas.List.Elements.{All-nil, All-cons}
use Rattle.bstr.specs.Fields.{fields_acc}
use Rattle.bstr.specs.Text.{part}
use Rattle.bstr.specs.Utf8.{decoded, decoded_by, lossy_chars, or_replacement, pieces, spans_from}
use Rattle.bstr.proofs.lemmas.FieldLemmas.{fields-skip, fields-start, fields-stop, fields-more, fields-nil, fields-last}
use Rattle.bstr.proofs.lemmas.PieceLemmas.{decoded_by-cut, lossy_chars-nil, lossy_chars-step, piece-bounds, spans-first, spans-nil}
use Rattle.s2ix_cli_words.specs.Fields.{HasNoWhiteSpace, IsBlank, StandApart, fields_of}

-- ---- a front of some bytes that is whole pieces

-- a piece does not look at what is after it
decoded-take : (k : ℕ) (bs : List ℕ) → 0 < k → k ≤ length bs → (decoded bs).size ≤ k → decoded (take k bs) ≡ decoded bs
decoded-take k bs some within fits =
    let front = take k bs in
    let long : length front ≡ k = length-take-le k bs within in
    let at : (i : ℕ) → i < k → slice_index front i ≡ slice_index bs i = λ i l. get_or-take k bs i 0 l in
    subst (λ v. decoded_by (length front) v (slice_index front 1) (slice_index front 2) (slice_index front 3) ≡ decoded bs)
    (sym (at 0 some))
    (decoded_by-cut (length front) (length bs) (slice_index bs 0) (slice_index bs 1) (slice_index bs 2) (slice_index bs 3)
    (slice_index front 1) (slice_index front 2) (slice_index front 3) (omega arith) (omega arith) (omega arith)
    (λ l. at 1 (omega arith)) (λ l. at 2 (omega arith)) (λ l. at 3 (omega arith)))

module _ (t : ℕ → Bool) where
  -- the first n pieces take k bytes, and a test gives the same for the character of each
  abbrev AreAlike : Bool → ℕ → ℕ → List ℕ → Type 0
  AreAlike v zero k bs = k ≡ 0
  AreAlike v (suc n) k bs =
      (0 < length bs) × (t (or_replacement (decoded bs).char) ≡ v) × ((decoded bs).size ≤ k)
      × AreAlike v n (k - (decoded bs).size) (drop (decoded bs).size bs)

  -- one piece more
  alike_more : (v : Bool) (n k : ℕ) (bs rest : List ℕ) → rest ≡ drop k bs → 0 < length rest → t (or_replacement (decoded rest).char) ≡ v
      → AreAlike v n k bs
      → AreAlike v (suc n) (k + (decoded rest).size) bs
  alike_more v zero k bs rest is some same none =
      let e : rest ≡ bs = is ∙ ap (λ i. drop i bs) none in
      subst (λ xs. (0 < length xs) × (t (or_replacement (decoded xs).char) ≡ v) × ((decoded xs).size ≤ k + (decoded rest).size)
      × (k + (decoded rest).size - (decoded xs).size ≡ 0))
      e (some, same, omega arith, omega arith)
  alike_more v (suc n) k bs rest is some same alike =
      let s = (decoded bs).size in
      let place : s + (k - s) ≡ k = let le = alike.2 in omega arith in
      let later =
      alike_more v n (k - s) (drop s bs) rest (is ∙ sym (drop-drop (k - s) s bs ∙ ap (λ i. drop i bs) place)) some same alike.3 in
      let sum : k - s + (decoded rest).size ≡ k + (decoded rest).size - s = let le = alike.2 in omega arith in
      let le = alike.2 in
      (alike.0, alike.1, omega arith, subst (λ i. AreAlike v (suc n) i (drop s bs)) sum later)

  -- the characters of such a front
  alike_chars : (v : Bool) (n k : ℕ) (bs : List ℕ) → k ≤ length bs → AreAlike v n k bs → All (λ c. t c ≡ v) (lossy_chars (take k bs))
  alike_chars v zero k bs within none =
      let e : lossy_chars (take k bs) ≡ [] = ap (λ i. lossy_chars (take i bs)) none ∙ lossy_chars-nil in
      subst (All (λ c. t c ≡ v)) (sym e) (All-nil _)
  alike_chars v (suc n) k bs within alike =
      let s = (decoded bs).size in
      let le = alike.2 in
      let bounds = piece-bounds bs alike.0 in
      let first = decoded-take k bs (omega arith) within le in
      let long : length (take k bs) ≡ k = length-take-le k bs within in
      let place : s + (k - s) ≡ k = omega arith in
      let left : drop s (take k bs) ≡ take (k - s) (drop s bs) =
      subst (λ i. drop s (take i bs) ≡ take (k - s) (drop s bs)) place (drop-take s (k - s) bs) in
      let e : lossy_chars (take k bs) ≡ or_replacement (decoded bs).char ∷ lossy_chars (take (k - s) (drop s bs)) =
      lossy_chars-step (take k bs) (omega arith) ∙ ap (λ p. or_replacement p.char ∷ lossy_chars (drop p.size (take k bs))) first
      ∙ ap (λ l. or_replacement (decoded bs).char ∷ lossy_chars l) left in
      let few = length-drop s bs in
      subst (All (λ c. t c ≡ v)) (sym e)
      (All-cons (λ c. t c ≡ v) (or_replacement (decoded bs).char) _ alike.1 (alike_chars v n (k - s) (drop s bs) (omega arith) alike.3))

-- ---- the fields

-- a stretch, and what is after it
part_after : (i j : ℕ) (hay : List ℕ) → i ≤ j → drop i hay ≡ part i j hay ++ drop j hay
part_after i j hay le =
    let place : i + (j - i) ≡ j = omega arith in
    sym (ap (λ rest. part i j hay ++ rest) (sym (drop-drop (j - i) i hay ∙ ap (λ k. drop k hay) place))
    ∙ take-append-drop (j - i) (drop i hay))

-- two stretches, and what is after them
two_parts_after : (i j k : ℕ) (hay : List ℕ) → i ≤ j → j ≤ k → drop i hay ≡ part i j hay ++ (part j k hay ++ drop k hay)
two_parts_after i j k hay first second = part_after i j hay first ∙ ap (λ rest. part i j hay ++ rest) (part_after j k hay second)

-- fields stand in a line: before and after each is white space, so many bytes of it at least before the first and one before each
-- other one, and in it none
abbrev pub Stand : ℕ → List (List ℕ) → List ℕ → Type 0
Stand least [] line = IsBlank line
Stand least (field ∷ fields) line =
    (before : List ℕ) × (after : List ℕ) × (line ≡ before ++ (field ++ after)) × IsBlank before × (least ≤ length before)
    × (0 < length field) × HasNoWhiteSpace field × Stand 1 fields after

-- a stretch is no longer than what it is cut from
part_fits : (i j : ℕ) (hay : List ℕ) → j ≤ length hay → j - i ≤ length (drop i hay)
part_fits i j hay le = omega (arith, length-drop i hay)

-- one field more
stand_more : (hay : List ℕ) (fields : List (List ℕ)) (least from a b m n : ℕ) → from + least ≤ a → a < b → b ≤ length hay
    → AreAlike is_whitespace true m (a - from) (drop from hay)
    → AreAlike is_whitespace false n (b - a) (drop a hay) → Stand 1 fields (drop b hay)
    → Stand least (part a b hay ∷ fields) (drop from hay)
stand_more hay fields least from a b m n before some within blank word later =
    let long : length (part a b hay) ≡ b - a = length-take-le (b - a) (drop a hay) (part_fits a b hay within) in
    let wide : length (part from a hay) ≡ a - from = length-take-le (a - from) (drop from hay) (part_fits from a hay (omega arith)) in (
      part from a hay,
      drop b hay,
      two_parts_after from a b hay (omega arith) (omega arith),
      alike_chars is_whitespace true m (a - from) (drop from hay) (part_fits from a hay (omega arith)) blank,
      omega arith,
      omega arith,
      alike_chars is_whitespace false n (b - a) (drop a hay) (part_fits a b hay within) word,
      later,
    )

-- white space to the end
stand_end : (hay : List ℕ) (from off m : ℕ) → from ≤ off → off ≡ length hay → AreAlike is_whitespace true m (off - from) (drop from hay)
    → IsBlank (drop from hay)
stand_end hay from off m le end blank =
    let left = length-drop from hay in
    let all : part from off hay ≡ drop from hay = take_all (off - from) (drop from hay) (omega arith) in
    subst IsBlank all (alike_chars is_whitespace true m (off - from) (drop from hay) (part_fits from off hay (omega arith)) blank)

-- the end of a line is a blank
blank_nothing : (rest : List ℕ) → [] ≡ rest → IsBlank rest
blank_nothing rest e = subst IsBlank e (subst (All (λ c. is_whitespace c ≡ true)) (sym lossy_chars-nil) (All-nil _))

-- what is left of a line from an index on: after white space, and within a field
abbrev Rest : List ℕ → ℕ → List (ℕ × ℕ × ℕ) → Type 0
Rest hay off spans =
    ((least from m : ℕ) → from + least ≤ off → AreAlike is_whitespace true m (off - from) (drop from hay)
    → Stand least (fields_acc is_whitespace hay None spans) (drop from hay))
    × ((least from a m n : ℕ) → from + least ≤ a → a < off → AreAlike is_whitespace true m (a - from) (drop from hay)
    → AreAlike is_whitespace false n (off - a) (drop a hay)
    → Stand least (fields_acc is_whitespace hay (Some (a, off)) spans) (drop from hay))

rest_end : (hay : List ℕ) (off : ℕ) → off ≡ length hay → [] ≡ drop off hay → Rest hay off []
rest_end hay off end none = (
  λ least from m le blank. subst (λ fs. Stand least fs (drop from hay)) (sym (fields-nil is_whitespace hay))
      (stand_end hay from off m (omega arith) end blank),
  λ least from a m n le some blank word. subst (λ fs. Stand least fs (drop from hay)) (sym (fields-last is_whitespace hay a off))
      (stand_more hay [] least from a off m n le some (omega arith) blank word (blank_nothing _ none)),
)

-- one piece more after what is alike
alike_next : (v : Bool) (hay bs : List ℕ) (n from off : ℕ) → bs ≡ drop off hay → 0 < length bs → from ≤ off
    → is_whitespace (or_replacement (decoded bs).char) ≡ v
    → AreAlike is_whitespace v n (off - from) (drop from hay)
    → AreAlike is_whitespace v (suc n) (off + (decoded bs).size - from) (drop from hay)
alike_next v hay bs n from off is some le same alike =
    let place : from + (off - from) ≡ off = omega arith in
    let sum : off - from + (decoded bs).size ≡ off + (decoded bs).size - from = omega arith in
    subst (λ k. AreAlike is_whitespace v (suc n) k (drop from hay)) sum
    (alike_more is_whitespace v n (off - from) (drop from hay) bs (is ∙ sym (drop-drop (off - from) from hay ∙ ap (λ k. drop k hay) place))
    some same alike)

rest_step : (hay bs : List ℕ) (off : ℕ) (spans : List (ℕ × ℕ × ℕ)) (v : Bool) → bs ≡ drop off hay → 0 < length bs
    → is_whitespace (or_replacement (decoded bs).char) ≡ v
    → Rest hay (off + (decoded bs).size) spans → Rest hay off ((off, off + (decoded bs).size, or_replacement (decoded bs).char) ∷ spans)
rest_step hay bs off spans true is some same rest =
    let span : ℕ × ℕ × ℕ = (off, off + (decoded bs).size, or_replacement (decoded bs).char) in
    let bounds = piece-bounds bs some in
    let long : length bs ≡ length hay - off = ap length is ∙ length-drop off hay in (
      λ least from m le blank. subst (λ fs. Stand least fs (drop from hay)) (sym (fields-skip is_whitespace hay span spans same))
          (rest.0 least from (suc m) (omega arith) (alike_next true hay bs m from off is some (omega arith) same blank)),
      λ least from a m n le inside blank word. subst (λ fs. Stand least fs (drop from hay))
          (sym (fields-stop is_whitespace hay span spans a off same))
          (stand_more hay _ least from a off m n le inside (omega arith) blank word
          (rest.0 1 off 1 (omega arith) (alike_next true hay bs 0 off off is some (omega arith) same (omega arith)))),
    )
rest_step hay bs off spans false is some same rest =
    let span : ℕ × ℕ × ℕ = (off, off + (decoded bs).size, or_replacement (decoded bs).char) in
    let bounds = piece-bounds bs some in (
      λ least from m le blank. subst (λ fs. Stand least fs (drop from hay)) (sym (fields-start is_whitespace hay span spans same))
          (rest.1 least from off m 1 le (omega arith) blank (alike_next false hay bs 0 off off is some (omega arith) same (omega arith))),
      λ least from a m n le inside blank word. subst (λ fs. Stand least fs (drop from hay))
          (sym (fields-more is_whitespace hay span spans a off same))
          (rest.1 least from a m (suc n) le (omega arith) blank (alike_next false hay bs n a off is some (omega arith) same word)),
    )

rest_of : (fuel : ℕ) (hay bs : List ℕ) (off : ℕ) → length bs ≤ fuel → off ≤ length hay → bs ≡ drop off hay
    → Rest hay off (spans_from off (pieces bs))
rest_of fuel hay [] off few within is =
    let left : 0 ≡ length hay - off = ap length is ∙ length-drop off hay in
    subst (Rest hay off) (sym (spans-nil [] off refl)) (rest_end hay off (omega arith) is)
rest_of zero hay (x ∷ xs) off few within is = absurd (omega arith)
rest_of (suc fuel) hay (x ∷ xs) off few within is =
    let bs = x ∷ xs in
    let s = (decoded bs).size in
    let bounds = piece-bounds bs (omega arith) in
    let long : length bs ≡ length hay - off = ap length is ∙ length-drop off hay in
    let left = length-drop s bs in
    let next : drop s bs ≡ drop (off + s) hay = ap (drop s) is ∙ drop-drop s off hay in
    let later = rest_of fuel hay (drop s bs) (off + s) (omega arith) (omega arith) next in
    subst (Rest hay off) (sym (spans-first bs off (omega arith))) (rest_step hay bs off _ _ is (omega arith) refl later)

-- the fields of a line stand in it
pub stand : (line : List ℕ) → Stand 0 (fields_of line) line
unfolding fields_of
stand line = (rest_of (length line) line line 0 (omega arith) (omega arith) refl).0 0 0 0 (omega arith) (omega arith)

-- ---- what that says

pub no_empty : (least : ℕ) (fields : List (List ℕ)) (line : List ℕ) → Stand least fields line → All (λ field. field ≢ []) fields
no_empty least [] line s = All-nil _
no_empty least (field ∷ fields) line s =
    All-cons (λ xs. xs ≢ []) field fields
    (λ e. let some : 0 < length field = s.5 in let none : length field ≡ 0 = ap length e in absurd (omega arith))
    (no_empty 1 fields s.1 s.7)

pub no_white_space : (least : ℕ) (fields : List (List ℕ)) (line : List ℕ) → Stand least fields line → All HasNoWhiteSpace fields
no_white_space least [] line s = All-nil _
no_white_space least (field ∷ fields) line s = All-cons HasNoWhiteSpace field fields s.6 (no_white_space 1 fields s.1 s.7)

pub apart : (least : ℕ) (fields : List (List ℕ)) (line : List ℕ) → Stand least fields line → StandApart least fields line
apart least [] line s = s
apart least (field ∷ fields) line s = (s.0, s.1, s.2, s.3, s.4, apart 1 fields s.1 s.7)
