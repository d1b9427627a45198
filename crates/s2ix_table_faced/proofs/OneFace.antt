-- The offsets of parts of which some give way to others, and how many there are.
use Rattle.std.proofs.Common.{◌≡◌, ℕ, zero, suc, ◌+◌, ◌-◌, ◌<◌, ◌≤◌, List, [], ◌∷◌, ◌++◌, length, take, drop, refl, sym, ◌∙◌, ap, arith}
use Rattle.std.proofs.lemmas.List.{length-append, length-drop, length-take-le}
use Rattle.s2ix_table_walk.specs.Table.{leaf_end}
use Rattle.s2ix_table_spans.specs.SpanTable.{SpanRanges}
use Rattle.s2ix_table_faced.specs.declared.offset.Offset.{Offset}
use Rattle.s2ix_table_parts.specs.Neighbours.{AreNeighbours}
use Rattle.s2ix_table_faced.specs.Offsets.{offset_after, offsets_from}

-- the offsets of those before them stay
pub first_alone : (o : Offset) (t : SpanRanges) (ts : List SpanRanges) → take 1 (offsets_from o (t ∷ ts)) ≡ o ∷ []
first_alone o t [] = refl
first_alone o t (u ∷ us) = refl

pub offsets_front : (n : ℕ) (o : Offset) (parts others : List SpanRanges) → n ≤ length parts
    → take n (offsets_from o (take n parts ++ others)) ≡ take n (offsets_from o parts)
offsets_front zero o parts others le = refl
offsets_front (suc n) o [] others le = absurd (omega arith)
offsets_front (suc zero) o (t ∷ ts) others le = first_alone o t others ∙ sym (first_alone o t ts)
offsets_front (suc (suc n)) o (t ∷ []) others le = absurd (omega arith)
offsets_front (suc (suc n)) o (t ∷ u ∷ us) others le =
    ap (λ os. o ∷ os) (offsets_front (suc n) (offset_after o t.ranges u.ranges) (u ∷ us) others (omega arith))

pub some_parts : (ts : List SpanRanges) → AreNeighbours 1 ts leaf_end → 0 < length ts
some_parts [] are = absurd (omega (arith, are))
some_parts (t ∷ ts) are = omega arith

-- how many there are then
pub length_with : {A : Type 0} (f e : ℕ) (xs ys : List A) → f ≤ e → e ≤ length xs
    → length (take f xs ++ (ys ++ drop e xs)) + (e - f) ≡ length xs + length ys
length_with f e xs ys order within =
    let all = length-append (take f xs) (ys ++ drop e xs) in
    let front = length-take-le f xs (omega arith) in
    let rest = length-append ys (drop e xs) in
    let back = length-drop e xs in
    omega arith

pub between_length : (a b : ℕ) (ts : List SpanRanges) → length (take (b - a) (drop a ts)) ≤ b - a
between_length a b ts = most (b - a) (drop a ts)
  where
    most : (n : ℕ) (us : List SpanRanges) → length (take n us) ≤ n
    most zero us = omega arith
    most (suc n) [] = omega arith
    most (suc n) (u ∷ us) = let rest = most n us in omega arith
