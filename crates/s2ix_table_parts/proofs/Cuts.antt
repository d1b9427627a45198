-- Where each of neighbouring parts begins and ends.
use Rattle.std.proofs.Common.{◌≡◌, ℕ, zero, suc, ◌+◌, ◌<◌, ◌≤◌, inl, inr, List, [], ◌∷◌, length, get_or, take, drop, refl, ◌∙◌, ap, arith, subst, AllPairs, Contains}
use Rattle.std.proofs.lemmas.Bool.{cases_eq, cases_lt}
use Rattle.std.proofs.lemmas.List.{get_or-map, length-map}
use Rattle.std.proofs.lemmas.List.Elements.{Contains-append_cases}
use Rattle.s2id_core.proofs.Lists.{none_in_nil}
use Rattle.s2ix_bag_pairs.specs.declared.pair.Held.{Held}
use Rattle.s2ix_table_walk.proofs.Over.{span_of}
use Rattle.s2ix_table_spans.specs.SpanTable.{SpanRanges}
use Rattle.s2ix_table_parts.specs.FaceSpans.{no_table, starts_of}
use Rattle.s2ix_table_parts.specs.Neighbours.{held_in, AreNeighbours}
use Rattle.s2ix_table_parts.specs.Parts.{EndsBy}
use Rattle.s2ix_table_parts.proofs.Neighbours.{span_known}

-- where the part of a number begins, of parts from a leaf number on; after the last one where all end
abbrev pub cut : ℕ → ℕ → List SpanRanges → ℕ
cut zero from parts = from
cut (suc n) from [] = from
cut (suc n) from (t ∷ ts) = cut n t.to ts

pub cut_is : (n from : ℕ) (parts : List SpanRanges) (to : ℕ) (d : SpanRanges) → AreNeighbours from parts to → n < length parts
    → (get_or parts n d).from ≡ cut n from parts
cut_is n from [] to d are lt = absurd (omega arith)
cut_is zero from (t ∷ ts) to d are lt = are.0
cut_is (suc n) from (t ∷ ts) to d are lt = cut_is n t.to ts to d are.2 (omega arith)

pub cut_to : (n from : ℕ) (parts : List SpanRanges) (to : ℕ) (d : SpanRanges) → AreNeighbours from parts to → n < length parts
    → (get_or parts n d).to ≡ cut (suc n) from parts
cut_to n from [] to d are lt = absurd (omega arith)
cut_to zero from (t ∷ ts) to d are lt = refl
cut_to (suc n) from (t ∷ ts) to d are lt = cut_to n t.to ts to d are.2 (omega arith)

pub cut_end : (n from : ℕ) (parts : List SpanRanges) (to : ℕ) → AreNeighbours from parts to → n ≡ length parts → cut n from parts ≡ to
cut_end zero from [] to are e = are
cut_end (suc n) from [] to are e = absurd (omega arith)
cut_end zero from (t ∷ ts) to are e = absurd (omega arith)
cut_end (suc n) from (t ∷ ts) to are e = cut_end n t.to ts to are.2 (omega arith)

-- ---- they rise

cut_next : (n from : ℕ) (parts : List SpanRanges) (to : ℕ) → AreNeighbours from parts to → n < length parts
    → cut n from parts < cut (suc n) from parts
cut_next n from [] to are lt = absurd (omega arith)
cut_next zero from (t ∷ ts) to are lt = let e = are.0 in let some = are.1.within.some in omega arith
cut_next (suc n) from (t ∷ ts) to are lt = cut_next n t.to ts to are.2 (omega arith)

pub cut_rises : (m n from : ℕ) (parts : List SpanRanges) (to : ℕ) → AreNeighbours from parts to → m ≤ n → n ≤ length parts
    → cut m from parts ≤ cut n from parts
cut_rises m zero from parts to are le within =
    let e : m ≡ 0 = omega arith in
    let same = ap (λ k. cut k from parts) e in
    omega arith
cut_rises m (suc n) from parts to are le within =
    elim (cases_eq m (suc n)) [
      | inl e ↦ (let same = ap (λ k. cut k from parts) e in omega arith)
      | inr ne ↦
          (let rest = cut_rises m n from parts to are (omega (arith, ne)) (omega arith) in
          let next = cut_next n from parts to are (omega arith) in
          omega arith)
    ]

pub cut_after : (m n from : ℕ) (parts : List SpanRanges) (to : ℕ) → AreNeighbours from parts to → m < n → n ≤ length parts
    → cut m from parts < cut n from parts
cut_after m n from parts to are lt within =
    let next = cut_next m from parts to are (omega arith) in
    let rest = cut_rises (suc m) n from parts to are (omega arith) within in
    omega arith

pub starts_rise : (from : ℕ) (parts : List SpanRanges) (to : ℕ) → AreNeighbours from parts to → AllPairs (λ a b. a < b) (starts_of parts)
starts_rise from parts to are i j d lt within =
    let many = length-map parts (λ (t : SpanRanges). t.from) in
    let one = get_or-map (λ (t : SpanRanges). t.from) parts i no_table d (omega arith) in
    let other = get_or-map (λ (t : SpanRanges). t.from) parts j no_table d (omega arith) in
    let begins = cut_is i from parts to no_table are (omega arith) in
    let begins_later = cut_is j from parts to no_table are (omega arith) in
    let less = cut_after i j from parts to are lt (omega arith) in
    omega arith

-- ---- some of them

pub front : (n from : ℕ) (parts : List SpanRanges) (to : ℕ) → AreNeighbours from parts to → n ≤ length parts
    → AreNeighbours from (take n parts) (cut n from parts)
front zero from parts to are le = refl
front (suc n) from [] to are le = absurd (omega arith)
front (suc n) from (t ∷ ts) to are le = (are.0, are.1, front n t.to ts to are.2 (omega arith))

pub back : (n from : ℕ) (parts : List SpanRanges) (to : ℕ) → AreNeighbours from parts to → n ≤ length parts
    → AreNeighbours (cut n from parts) (drop n parts) to
back zero from parts to are le = are
back (suc n) from [] to are le = absurd (omega arith)
back (suc n) from (t ∷ ts) to are le = back n t.to ts to are.2 (omega arith)

cut_drop : (n k from : ℕ) (parts : List SpanRanges) → n ≤ length parts → cut k (cut n from parts) (drop n parts) ≡ cut (n + k) from parts
cut_drop zero k from parts le = let e : k ≡ 0 + k = omega arith in ap (λ j. cut j from parts) e
cut_drop (suc n) k from [] le = absurd (omega arith)
cut_drop (suc n) k from (t ∷ ts) le =
    let e : suc (n + k) ≡ suc n + k = omega arith in
    cut_drop n k t.to ts (omega arith) ∙ ap (λ j. cut j from (t ∷ ts)) e

-- those from one number on and before another
pub between : (a n from : ℕ) (parts : List SpanRanges) (to : ℕ) → AreNeighbours from parts to → a + n ≤ length parts
    → AreNeighbours (cut a from parts) (take n (drop a parts)) (cut (a + n) from parts)
between a n from parts to are le =
    let left = length_drop a parts (omega arith) in
    subst (AreNeighbours (cut a from parts) (take n (drop a parts))) (cut_drop a n from parts (omega arith))
    (front n (cut a from parts) (drop a parts) to (back a from parts to are (omega arith)) (omega arith))
  where
    length_drop : (n : ℕ) (xs : List SpanRanges) → n ≤ length xs → n + length (drop n xs) ≡ length xs
    length_drop zero xs le = omega arith
    length_drop (suc n) [] le = absurd (omega arith)
    length_drop (suc n) (x ∷ xs) le = let rest = length_drop n xs (omega arith) in omega arith

-- ---- their cells

pub neighbours_rise : (from : ℕ) (parts : List SpanRanges) (to : ℕ) → AreNeighbours from parts to → from ≤ to
neighbours_rise from [] to are = omega (arith, are)
neighbours_rise from (t ∷ ts) to are =
    let e = are.0 in let some = are.1.within.some in
    let rest = neighbours_rise t.to ts to are.2 in
    omega arith

pub all_end : (from : ℕ) (parts : List SpanRanges) (to : ℕ) → AreNeighbours from parts to → EndsBy (held_in parts) to
all_end from [] to are h held = absurd (none_in_nil h held)
all_end from (t ∷ ts) to are h held =
    elim (Contains-append_cases t.held (held_in ts) h held) [
      | inl own ↦ (let le = are.1.within.ends h own in let rest = neighbours_rise t.to ts to are.2 in omega arith)
      | inr other ↦ all_end t.to ts to are.2 h other
    ]

apart : (i j from : ℕ) (parts : List SpanRanges) (to : ℕ) (h : Held) → AreNeighbours from parts to → i < j → j < length parts
    → Contains (get_or parts i no_table).held h → Contains (get_or parts j no_table).held h → ⊥
apart i j from parts to h are lt within one other =
    let own = (span_known from parts to i no_table are (omega arith)).within in
    let later = (span_known from parts to j no_table are within).within in
    let end = own.ends h one in
    let begin = later.begins h other in
    let rises = (span_of h).rises in
    let ends = cut_to i from parts to no_table are (omega arith) in
    let begins = cut_is j from parts to no_table are within in
    let le = cut_rises (suc i) j from parts to are (omega arith) (omega arith) in
    omega arith

-- two parts that hold a pair are one
pub same_part : (i j from : ℕ) (parts : List SpanRanges) (to : ℕ) (h : Held) → AreNeighbours from parts to → i < length parts
    → j < length parts → Contains (get_or parts i no_table).held h → Contains (get_or parts j no_table).held h → i ≡ j
same_part i j from parts to h are lt within one other =
    elim (cases_lt i j) [
      | inl less ↦ absurd (apart i j from parts to h are less within one other)
      | inr le ↦
          elim (cases_eq i j) [
            | inl e ↦ e
            | inr ne ↦ absurd (apart j i from parts to h are (omega (arith, ne)) lt other one)
          ]
    ]
