-- The first fault of a text stands in the line that is named.
use Rattle.std.proofs.Common.{◌≡◌, ℕ, suc, ◌+◌, ◌-◌, ◌<◌, Bool, true, false, not, cond, Option, Some, None, List, [], ◌∷◌, ◌++◌, length, take, drop, refl, sym, ◌∙◌, subst, append_assoc, arith}
use Rattle.std.specs.Prelude.{find, slice_index_or}
use Rattle.std.proofs.lemmas.List.{append-nil, length_push}
use Rattle.s2ix_bag_pairs.specs.declared.limits.Limits.{Limits}
use Rattle.s2ix_text_parts.specs.LineFaults.{LineAt, fault_below}
use Rattle.s2ix_text_parts.specs.Lines.{is_nil, lines_of}
use Rattle.s2ix_text_parts.specs.NumberedLines.{place_at}
use Rattle.s2ix_text_parts.proofs.FirstFault.{found_here, found_later, found_nowhere, place}

-- ---- what is found passes the test

passes_first : {F : Type 0} (test : F → Bool) (first : F) (holds : Bool) (later : Option F) (it : F) → test first ≡ holds
    → (later ≡ Some it → test it ≡ true) → cond holds (Some first) later ≡ Some it → test it ≡ true
passes_first test first true later it here there is = let same : first ≡ it = cc in subst (λ x. test x ≡ true) same here
passes_first test first false later it here there is = there is

pub find_passes : {F : Type 0} (test : F → Bool) (faults : List F) (it : F) → find test faults ≡ Some it → test it ≡ true
find_passes test [] it is = cc
find_passes test (first ∷ faults) it is = passes_first test first (test first) (find test faults) it refl (find_passes test faults it) is

-- ---- the line of a fault

-- the place of the line that has so many of these lines above it, below those in front
abbrev place_among : Limits → List (List ℕ) → List (List ℕ) → ℕ → LineAt
place_among limits front lines k = record {
  limits = limits;
  above = front ++ take k lines;
  line = slice_index_or lines k [];
  ended = not (is_nil (drop (suc k) lines));
}

-- the first fault of some lines is that of one of them
record IsFoundAt {F : Type 0} (fault : LineAt → Option F) (limits : Limits) (front lines : List (List ℕ)) (found : ℕ × F) (k : ℕ) : Type 0
  where
    inside : k < length lines
    number : found.0 ≡ length front + k + 1
    has : fault (place_among limits front lines k) ≡ Some found.1

found_first : {F : Type 0} (fault : LineAt → Option F) (limits : Limits) (front : List (List ℕ)) (line : List ℕ) (lines : List (List ℕ))
    (it : F)
    → fault (place limits front line lines) ≡ Some it → IsFoundAt fault limits front (line ∷ lines) (length front + 1, it) 0
found_first fault limits front line lines it is = record {
  inside = omega arith;
  number = omega arith;
  has = subst (λ (above : List (List ℕ)). fault (place limits above line lines) ≡ Some it) (sym (append-nil front)) is;
}

found_next : {F : Type 0} (fault : LineAt → Option F) (limits : Limits) (front : List (List ℕ)) (line : List ℕ) (lines : List (List ℕ))
    (found : ℕ × F) (k : ℕ)
    → IsFoundAt fault limits (front ++ line ∷ []) lines found k → IsFoundAt fault limits front (line ∷ lines) found (suc k)
found_next fault limits front line lines found k is = record {
  inside = let inside = is.inside in omega arith;
  number = omega (arith, is.number, length_push front line);
  has = subst
      (λ (above : List (List ℕ)). fault
      (record { limits = limits; above = above; line = slice_index_or lines k []; ended = not (is_nil (drop (suc k) lines)) })
      ≡ Some found.1)
      (append_assoc front (line ∷ []) (take k lines)) is.has;
}

found_in : {F : Type 0} (fault : LineAt → Option F) (limits : Limits) (front : List (List ℕ)) (line : List ℕ) (lines : List (List ℕ))
    (found : ℕ × F) (o : Option F)
    → fault (place limits front line lines) ≡ o
    → (fault_below fault limits (front ++ line ∷ []) lines ≡ Some found → (k : ℕ)
    × IsFoundAt fault limits (front ++ line ∷ []) lines found k)
    → fault_below fault limits front (line ∷ lines) ≡ Some found → (k : ℕ) × IsFoundAt fault limits front (line ∷ lines) found k
found_in {F = F} fault limits front line lines found (Some it) here below is =
    let same : ◌≡◌ {A = Option (ℕ × F)} (Some (length front + 1, it)) (Some found) =
    sym (found_here fault limits front line lines it here) ∙ is in
    let pair : (length front + 1, it) ≡ found = cc in
    (0, subst (λ (x : ℕ × F). IsFoundAt fault limits front (line ∷ lines) x 0) pair (found_first fault limits front line lines it here))
found_in fault limits front line lines found None here below is =
    let later = below (sym (found_later fault limits front line lines here) ∙ is) in
    (suc later.0, found_next fault limits front line lines found later.0 later.1)

found_among : {F : Type 0} (fault : LineAt → Option F) (limits : Limits) (front lines : List (List ℕ)) (found : ℕ × F)
    → fault_below fault limits front lines ≡ Some found → (k : ℕ) × IsFoundAt fault limits front lines found k
found_among {F = F} fault limits front [] found is =
    let clash : ◌≡◌ {A = Option (ℕ × F)} None (Some found) = sym (found_nowhere fault limits front) ∙ is in cc
found_among fault limits front (line ∷ lines) found is =
    found_in fault limits front line lines found (fault (place limits front line lines)) refl
    (found_among fault limits (front ++ line ∷ []) lines found) is

-- ---- of a whole text

-- the line of a text with this number has the fault
pub record IsOfLine {F : Type 0} (fault : LineAt → Option F) (limits : Limits) (text : List ℕ) (number : ℕ) (it : F) : Type 0 where
  pub from : 0 < number
  pub inside : number - 1 < length (lines_of text)
  pub has : fault (place_at limits number text) ≡ Some it

pub found_of_line : {F : Type 0} (fault : LineAt → Option F) (limits : Limits) (text : List ℕ) (number : ℕ) (it : F)
    → fault_below fault limits [] (lines_of text) ≡ Some (number, it) → IsOfLine fault limits text number it
found_of_line fault limits text number it is =
    let found = found_among fault limits [] (lines_of text) (number, it) is in
    let next : suc found.0 ≡ number = omega (arith, found.1.number) in
    let before : found.0 ≡ number - 1 = omega arith in
    let there = subst
    (λ (n : ℕ).
    fault (record {
      limits = limits;
      above = take n (lines_of text);
      line = slice_index_or (lines_of text) n [];
      ended = not (is_nil (drop (suc found.0) (lines_of text)));
    }) ≡ Some it)
    before found.1.has in
    record {
      from = omega arith;
      inside = omega (arith, found.1.inside);
      has = subst
          (λ (n : ℕ).
          fault (record {
            limits = limits;
            above = take (number - 1) (lines_of text);
            line = slice_index_or (lines_of text) (number - 1) [];
            ended = not (is_nil (drop n (lines_of text)));
          }) ≡ Some it)
          next there;
    }
