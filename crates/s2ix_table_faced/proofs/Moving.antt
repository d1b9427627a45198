-- Offsets whose places are moved.
use Rattle.std.proofs.Common.{◌≡◌, ℕ, zero, suc, ◌+◌, ◌-◌, ◌<◌, ◌≤◌, inl, inr, List, [], ◌∷◌, ◌++◌, length, map, max, take, drop, set, get_or, refl, sym, ◌∙◌, ap, ap₂, arith, subst}
use Rattle.std.proofs.lemmas.Bool.{cases_Bool, cond-true, cond-false}
use Rattle.std.proofs.lemmas.List.{drop-drop, drop-set-lt, get_or-drop, get_or-set_other, get_or-take, length-drop, length-set, take-append-drop, take_all}
use Rattle.std.proofs.lemmas.Grind.{take-set_at}
use Rattle.std.proofs.Math.Seq.{take-suc}
use Rattle.s2ix_bag_pairs.specs.Collection.{Collection}
use Rattle.s2ix_table_walk.specs.Table.{Range, range_at, leaf_end}
use Rattle.s2ix_table_spans.specs.SpanTable.{SpanRanges}
use Rattle.s2ix_table_faced.specs.declared.offset.Offset.{Offset}
use Rattle.s2ix_table_parts.specs.FaceSpans.{no_table, table_of}
use Rattle.s2ix_table_faced.specs.Offsets.{is_joined, last_start, moved, offset_after, offset_at, offsets_from, offsets_of, AreMovable, AreOffsetsFrom}
use Rattle.s2ix_table_faced.proofs.Joining.{AreOverSpans}
use Rattle.s2ix_table_faced.proofs.Offsets.{length_offsets, offset_next}
use Rattle.s2ix_table_faced.proofs.OneFace.{first_alone}
use Rattle.s2ix_table_faced.proofs.Reading.{first_offset, no_offset}
use Rattle.s2ix_table_faced.proofs.Together.{ends_few}

-- ---- one offset

offset_with : ℕ → ℕ → Offset
offset_with place start = record { place = place; start = start }

-- the next one moves as far
after_moved : (from to : ℕ) (offset : Offset) (rs ss : List Range) → from ≤ offset.place
    → offset_after (moved from to offset) rs ss ≡ moved from to (offset_after offset rs ss)
unfolding offset_with
after_moved from to offset rs ss le =
    let start = last_start offset rs in
    let next = (range_at ss 0).start in
    let one : offset.place - from + to + (length rs - 1) ≡ offset.place + (length rs - 1) - from + to = omega arith in
    let all : offset.place - from + to + length rs ≡ offset.place + length rs - from + to = omega arith in
    elim (cases_Bool (is_joined rs ss)) [
      | inl t ↦
          cond-true (is_joined rs ss) (offset_with (offset.place - from + to + (length rs - 1)) start)
          (offset_with (offset.place - from + to + length rs) next) t
          ∙ ap (λ n. offset_with n start) one
          ∙ sym (ap (moved from to) (cond-true (is_joined rs ss) (offset_with (offset.place + (length rs - 1)) start)
          (offset_with (offset.place + length rs) next) t))
      | inr f ↦
          cond-false (is_joined rs ss) (offset_with (offset.place - from + to + (length rs - 1)) start)
          (offset_with (offset.place - from + to + length rs) next) f
          ∙ ap (λ n. offset_with n next) all
          ∙ sym (ap (moved from to) (cond-false (is_joined rs ss) (offset_with (offset.place + (length rs - 1)) start)
          (offset_with (offset.place + length rs) next) f))
    ]

after_rises : (offset : Offset) (rs ss : List Range) → offset.place ≤ (offset_after offset rs ss).place
unfolding offset_with
after_rises offset rs ss =
    let start = last_start offset rs in
    let next = (range_at ss 0).start in
    elim (cases_Bool (is_joined rs ss)) [
      | inl t ↦
          (let is = ap (λ (o : Offset). o.place) (cond-true (is_joined rs ss) (offset_with (offset.place + (length rs - 1)) start)
          (offset_with (offset.place + length rs) next) t) in omega (arith, is))
      | inr f ↦
          (let is = ap (λ (o : Offset). o.place) (cond-false (is_joined rs ss) (offset_with (offset.place + (length rs - 1)) start)
          (offset_with (offset.place + length rs) next) f) in omega (arith, is))
    ]

-- ---- all of them

from_moved : (from to : ℕ) (offset : Offset) (ts : List SpanRanges) → from ≤ offset.place
    → offsets_from (moved from to offset) ts ≡ map (moved from to) (offsets_from offset ts)
from_moved from to offset [] le = refl
from_moved from to offset (t ∷ []) le = refl
from_moved from to offset (t ∷ u ∷ us) le =
    let rises = after_rises offset t.ranges u.ranges in
    ap (λ os. moved from to offset ∷ os)
    (ap (λ o. offsets_from o (u ∷ us)) (after_moved from to offset t.ranges u.ranges le)
    ∙ from_moved from to (offset_after offset t.ranges u.ranges) (u ∷ us) (omega arith))

-- no place is too great
abbrev AreFew : List Offset → Type 0
AreFew [] = Unit {0}
AreFew (o ∷ os) = (o.place ≤ 4000000) × AreFew os

few_all : (os : List Offset) → ((i : ℕ) → i < length os → (get_or os i no_offset).place ≤ 4000000) → AreFew os
few_all [] all = record {}
few_all (o ∷ os) all = (all 0 (omega arith), few_all os (λ i lt. all (suc i) (omega arith)))

from_movable : (from to : ℕ) (offset : Offset) (ts : List SpanRanges) → from ≤ offset.place → AreFew (map (moved from to) (offsets_from offset ts))
    → AreMovable from to (offsets_from offset ts)
from_movable from to offset [] le within_limit = record {}
from_movable from to offset (t ∷ []) le within_limit = (le, within_limit.0, record {})
from_movable from to offset (t ∷ u ∷ us) le within_limit =
    let rises = after_rises offset t.ranges u.ranges in
    (le, within_limit.0, from_movable from to (offset_after offset t.ranges u.ranges) (u ∷ us) (omega arith) within_limit.1)

-- ---- offsets from a part on

offsets_behind : (n : ℕ) (offset : Offset) (ts : List SpanRanges)
    → drop n (offsets_from offset ts) ≡ offsets_from (get_or (offsets_from offset ts) n no_offset) (drop n ts)
offsets_behind zero offset [] = refl
offsets_behind zero offset (t ∷ []) = refl
offsets_behind zero offset (t ∷ u ∷ us) = refl
offsets_behind (suc n) offset [] = refl
offsets_behind (suc n) offset (t ∷ []) = none n
  where
    none : (m : ℕ) → drop m [] ≡ offsets_from (get_or [] m no_offset) (drop m [])
    none zero = refl
    none (suc m) = refl
offsets_behind (suc n) offset (t ∷ u ∷ us) = offsets_behind n (offset_after offset t.ranges u.ranges) (u ∷ us)

pub own_behind : (n : ℕ) (ts : List SpanRanges) → AreOffsetsFrom n (offsets_of ts) ts
own_behind n ts = offsets_behind n first_offset ts

-- offsets from a part on are so from each later one on
pub behind_more : (n k : ℕ) (os : List Offset) (ts : List SpanRanges) → AreOffsetsFrom n os ts → AreOffsetsFrom (n + k) os ts
behind_more n k os ts are =
    let at = sym (get_or-drop n os k no_offset) ∙ ap (λ ps. get_or ps k no_offset) are in
    sym (drop-drop k n os)
    ∙ ap (drop k) are
    ∙ offsets_behind k (offset_at os n) (drop n ts)
    ∙ ap₂ (λ o us. offsets_from o us) (sym at) (drop-drop k n ts)

pub behind_later : (n m : ℕ) (os : List Offset) (ts : List SpanRanges) → n ≤ m → AreOffsetsFrom n os ts → AreOffsetsFrom m os ts
behind_later n m os ts le are =
    let sum : n + (m - n) ≡ m = omega arith in
    subst (λ k. AreOffsetsFrom k os ts) sum (behind_more n (m - n) os ts are)

-- a write before them leaves them
pub behind_set : (n i : ℕ) (o : Offset) (os : List Offset) (ts : List SpanRanges) → i < n → AreOffsetsFrom n os ts → AreOffsetsFrom n (set os i o) ts
behind_set n i o os ts lt are =
    drop-set-lt n os i o lt
    ∙ are
    ∙ ap (λ p. offsets_from p (drop n ts)) (sym (get_or-set_other os i n o no_offset (λ e. absurd (omega (arith, e)))))

-- ---- places moved one after the other

pub movable_at : (from to : ℕ) (os : List Offset) (i : ℕ) → i < length os → AreMovable from to os
    → (from ≤ (offset_at os i).place) × ((offset_at os i).place - from + to ≤ 4000000)
movable_at from to [] i lt are = absurd (omega arith)
movable_at from to (o ∷ os) zero lt are = (are.0, are.1)
movable_at from to (o ∷ os) (suc i) lt are = movable_at from to os i (omega arith) are.2

-- the offset at hand is as it was
pub get_unmoved : (f : Offset → Offset) (os : List Offset) (i : ℕ) → i < length os
    → offset_at (map f (take i os) ++ drop i os) i ≡ offset_at os i
get_unmoved f [] i lt = absurd (omega arith)
get_unmoved f (o ∷ os) zero lt = refl
get_unmoved f (o ∷ os) (suc i) lt = get_unmoved f os i (omega arith)

set_moved : (f : Offset → Offset) (os : List Offset) (i : ℕ) → i < length os
    → set (map f (take i os) ++ drop i os) i (f (offset_at os i)) ≡ map f (take (suc i) os) ++ drop (suc i) os
set_moved f [] i lt = absurd (omega arith)
set_moved f (o ∷ os) zero lt = refl
set_moved f (o ∷ os) (suc i) lt = ap (λ ps. f o ∷ ps) (set_moved f os i (omega arith))

pub moved_more : (f : Offset → Offset) (os ps : List Offset) (i : ℕ) → i < length os → ps ≡ map f (take i os) ++ drop i os
    → set ps i (f (offset_at ps i)) ≡ map f (take (i + 1) os) ++ drop (i + 1) os
moved_more f os ps i lt is =
    let more : suc i ≡ i + 1 = omega arith in
    ap (λ qs. set qs i (f (offset_at qs i))) is
    ∙ ap (λ o. set (map f (take i os) ++ drop i os) i (f o)) (get_unmoved f os i lt)
    ∙ set_moved f os i lt
    ∙ ap (λ k. map f (take k os) ++ drop k os) more

-- ---- the next offset is counted

-- the offset after the last right one is right
next_right : (parts : List SpanRanges) (os : List Offset) (offset : Offset) (n : ℕ) → 0 < n → n < length parts → length os ≡ length parts
    → take n os ≡ take n (offsets_of parts) → offset ≡ offset_after (offset_at os (n - 1)) (table_of parts (n - 1)).ranges (table_of parts n).ranges
    → offset ≡ offset_at (offsets_of parts) n
next_right parts os offset n some lt many before is =
    let e : suc (n - 1) ≡ n = omega arith in
    let last = sym (get_or-take n os (n - 1) no_offset (omega arith)) ∙ ap (λ ps. get_or ps (n - 1) no_offset) before
    ∙ get_or-take n (offsets_of parts) (n - 1) no_offset (omega arith) in
    is
    ∙ ap (λ o. offset_after o (table_of parts (n - 1)).ranges (table_of parts n).ranges) last
    ∙ ap (λ k. offset_after (offset_at (offsets_of parts) (n - 1)) (table_of parts (n - 1)).ranges (table_of parts k).ranges) (sym e)
    ∙ sym (offset_next first_offset parts (n - 1) no_table no_offset (omega arith))
    ∙ ap (offset_at (offsets_of parts)) e

-- the last right place is not too great
pub last_few : (held : Collection) (parts : List SpanRanges) (os : List Offset) (n : ℕ) → AreOverSpans held 1 parts leaf_end → length held ≤ 1000000
    → 0 < n → n ≤ length parts → take n os ≡ take n (offsets_of parts)
    → (offset_at os (n - 1)).place + length (table_of parts (n - 1)).ranges ≤ 2000001
last_few held parts os n are within_limit some le before =
    let last = sym (get_or-take n os (n - 1) no_offset (omega arith)) ∙ ap (λ ps. get_or ps (n - 1) no_offset) before
    ∙ get_or-take n (offsets_of parts) (n - 1) no_offset (omega arith) in
    let place = ap (λ (o : Offset). o.place) last in
    let ends = ends_few held parts (n - 1) are within_limit (omega arith) in
    omega (arith, place, ends)

first_is : (parts : List SpanRanges) → 0 < length parts → offset_at (offsets_of parts) 0 ≡ first_offset
first_is [] some = absurd (omega arith)
first_is (t ∷ []) some = refl
first_is (t ∷ u ∷ us) some = refl

-- the first offset of all is put in its place
pub counted_first : (parts : List SpanRanges) (os : List Offset) (n : ℕ) → 0 < length parts → length os ≡ length parts
    → take n os ≡ take n (offsets_of parts) → take (max n 1) (set os 0 first_offset) ≡ take (max n 1) (offsets_of parts)
counted_first parts [] n some many before = absurd (omega arith)
counted_first [] (o ∷ os) n some many before = absurd (omega arith)
counted_first (t ∷ ts) (o ∷ os) zero some many before =
    let one : max 0 1 ≡ 1 = omega arith in
    subst (λ k. take k (first_offset ∷ os) ≡ take k (offsets_of (t ∷ ts))) (sym one) (sym (first_alone first_offset t ts))
counted_first (t ∷ ts) (o ∷ os) (suc n) some many before =
    let more : max (suc n) 1 ≡ suc n = omega arith in
    let first : o ≡ first_offset =
    ap (λ ps. get_or ps 0 no_offset) before ∙ get_or-take (suc n) (offsets_of (t ∷ ts)) 0 no_offset (omega arith) ∙ first_is (t ∷ ts) (omega arith) in
    subst (λ k. take k (first_offset ∷ os) ≡ take k (offsets_of (t ∷ ts))) (sym more)
    (ap (λ p. p ∷ take n os) (sym first) ∙ before)

-- once all are counted
pub counted_all : (parts : List SpanRanges) (os : List Offset) (n : ℕ) → n ≡ length parts → length os ≡ length parts
    → take n os ≡ take n (offsets_of parts) → os ≡ offsets_of parts
counted_all parts os n all many before =
    let many_offsets = length_offsets first_offset parts in
    sym (take_all n os (omega arith)) ∙ before ∙ take_all n (offsets_of parts) (omega arith)

pub record AreCountedTo (parts : List SpanRanges) (os : List Offset) (n end : ℕ) : Type 0 where
  pub many : length os ≡ length parts
  pub before : take n os ≡ take n (offsets_of parts)
  pub behind : AreOffsetsFrom (max n end) os parts

-- it is put in its place
pub counted_one : (parts : List SpanRanges) (os : List Offset) (offset : Offset) (n end : ℕ) → 0 < n → n < length parts → length os ≡ length parts
    → take n os ≡ take n (offsets_of parts) → AreOffsetsFrom (max n end) os parts
    → offset ≡ offset_after (offset_at os (n - 1)) (table_of parts (n - 1)).ranges (table_of parts n).ranges
    → AreCountedTo parts (set os n offset) (n + 1) end
counted_one parts os offset n end some lt many before behind is =
    let next : n + 1 ≡ suc n = omega arith in
    let many_offsets = length_offsets first_offset parts in
    let right = next_right parts os offset n some lt many before is in
    record {
      many = length-set os n offset ∙ many;
      before =
          take-set_at os n (n + 1) offset refl (omega arith)
          ∙ ap₂ (λ ps o. ps ++ o ∷ []) before right
          ∙ sym (take-suc (offsets_of parts) n no_offset (omega arith))
          ∙ ap (λ k. take k (offsets_of parts)) (sym next);
      behind =
          behind_set (max (n + 1) end) n offset os parts (omega arith)
          (behind_later (max n end) (max (n + 1) end) os parts (omega arith) behind);
    }

-- all behind are moved as far as this one
pub moved_right : (held : Collection) (parts : List SpanRanges) (os : List Offset) (offset : Offset) (n end : ℕ) → AreOverSpans held 1 parts leaf_end
    → length held ≤ 1000000 → 0 < n → n < length parts → length os ≡ length parts
    → take n os ≡ take n (offsets_of parts) → AreOffsetsFrom (max n end) os parts → end ≤ n
    → offset ≡ offset_after (offset_at os (n - 1)) (table_of parts (n - 1)).ranges (table_of parts n).ranges
    → offset.start ≡ (offset_at os n).start
    → AreMovable (offset_at os n).place offset.place (drop n os)
    × (take n os ++ map (moved (offset_at os n).place offset.place) (drop n os) ≡ offsets_of parts)
unfolding offset_with
moved_right held parts os offset n end are within_limit some lt many before behind le is same =
    let right = next_right parts os offset n some lt many before is in
    let old = offset_at os n in
    let here : max n end ≡ n = omega arith in
    let own = subst (λ k. AreOffsetsFrom k os parts) here behind in
    let place : old.place - old.place + offset.place ≡ offset.place = omega arith in
    let now : moved old.place offset.place old ≡ offset = ap₂ offset_with place (sym same) in
    let are_moved : map (moved old.place offset.place) (drop n os) ≡ drop n (offsets_of parts) =
    ap (map (moved old.place offset.place)) own
    ∙ sym (from_moved old.place offset.place old (drop n parts) (omega arith))
    ∙ ap (λ o. offsets_from o (drop n parts)) (now ∙ right)
    ∙ sym (own_behind n parts) in
    let many_offsets = length_offsets first_offset parts in
    let left = length-drop n (offsets_of parts) in
    let few_moved = few_all (drop n (offsets_of parts)) (λ i less.
    let at = get_or-drop n (offsets_of parts) i no_offset in
    let ends = ends_few held parts (n + i) are within_limit (omega arith) in
    let place_is = ap (λ (o : Offset). o.place) at in
    omega (arith, place_is, ends)) in
    let movable = from_movable old.place offset.place old (drop n parts) (omega arith)
    (subst AreFew (sym are_moved ∙ ap (map (moved old.place offset.place)) own) few_moved) in (
      subst (AreMovable old.place offset.place) (sym own) movable,
      ap₂ (λ ps qs. ps ++ qs) before are_moved ∙ take-append-drop n (offsets_of parts),
    )
