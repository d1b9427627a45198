-- The offsets of neighbouring tables.
use Rattle.std.proofs.Common.{◌≡◌, ℕ, zero, suc, ◌+◌, ◌-◌, ◌==◌, ◌<◌, ◌≤◌, inl, inr, true, false, List, [], ◌∷◌, length, get_or, slice_index_or, refl, sym, ◌∙◌, ap, arith, subst}
use Rattle.std.proofs.lemmas.Bool.{cases_Bool, cases_eq, cond-true, cond-false}
use Rattle.std.proofs.lemmas.Bool.Decides.{nat_tests}
use Rattle.s2ix_bag_pairs.specs.Collection.{Collection}
use Rattle.s2ix_table_walk.specs.Table.{Range, range_at}
use Rattle.s2ix_table_spans.specs.SpanTable.{SpanRanges}
use Rattle.s2ix_table_faced.specs.declared.offset.Offset.{Offset}
use Rattle.s2ix_table_faced.specs.Joined.{is_same, put_before, joined_ranges}
use Rattle.s2ix_table_faced.specs.Offsets.{is_joined, last_start, offset_after, offsets_from, offsets_of, places_of}
use Rattle.s2ix_table_faced.proofs.Joining.{same_is, AreOverSpans, table_over_spans}
use Rattle.s2ix_table_faced.proofs.JoinedPlaces.{IsOne, BeginAlike, joined_one, joined_two, joined_nil, joined_first}
use Rattle.s2ix_table_faced.proofs.Placing.{IsOffset, IsPart, IsCut, last_part, two_part, two_next, one_part, one_next, one_start}

offset_with : ℕ → ℕ → Offset
offset_with place start = record { place = place; start = start }

-- ---- from one table to the next

-- a table's offset says where it stands, and the next one's where the others do
pub record IsStep (whole xs ys : List Range) (offset next : Offset) : Type 0 where
  pub part : IsPart whole xs offset next.place
  pub rest : IsOffset whole ys next

last_begins : (whole xs ys zs : List Range) (offset : Offset) (p : ℕ) → IsCut xs ys p → IsOne xs ys p zs → IsOffset whole zs offset
    → ((range_at whole (offset.place + p)).start ≡ last_start offset xs) × (last_start offset xs ≤ (range_at ys 0).start)
last_begins whole xs ys zs offset p cut one is =
    let last = cut.last_is in
    let some = cut.some in
    let both = one.length_is in
    let e : length xs - 1 ≡ p = omega arith in
    let begin = cut.start in
    elim (cases_eq p 0) [
      | inl none ↦
          (let only : (length xs == 1) ≡ true = grind (arith, nat_tests) in
          let is_start : last_start offset xs ≡ offset.start = cond-true (length xs == 1) offset.start (range_at xs (length xs - 1)).start only in
          let here : offset.place + p ≡ offset.place = omega arith in
          let by = is.by in
          let first = one_start xs ys zs p 0 last one (omega arith) in
          let zero_start = ap (λ n. (range_at xs n).start) none in
          (ap (λ n. (range_at whole n).start) here ∙ is.start ∙ sym is_start, omega arith))
      | inr more ↦
          (let many : (length xs == 1) ≡ false = grind (arith, nat_tests) in
          let is_start : last_start offset xs ≡ (range_at xs p).start = cond-false (length xs == 1) offset.start (range_at xs (length xs - 1)).start many ∙ ap (λ n. (range_at xs n).start) e in
          let there = is.later p (omega (arith, more)) (omega arith) in
          (ap (λ (r : Range). r.start) there ∙ one.start ∙ sym is_start, omega arith))
    ]

pub next_step : (whole xs ys us : List Range) (offset : Offset) (p : ℕ) → IsCut xs ys p → BeginAlike us ys
    → IsOffset whole (put_before xs ys) offset → IsStep whole xs ys offset (offset_after offset xs us)
unfolding offset_with
next_step whole xs ys us offset p cut begin is =
    let last = cut.last_is in
    let some = cut.some in
    let e : length xs - 1 ≡ p = omega arith in
    let test : is_joined xs us ≡ is_same (range_at xs p).contents (range_at ys 0).contents =
    ap (λ n. is_same (range_at xs n).contents (range_at us 0).contents) e ∙ ap (is_same (range_at xs p).contents) (sym begin.contents) in
    let joined_offset : Offset = offset_with (offset.place + (length xs - 1)) (last_start offset xs) in
    let apart_offset : Offset = offset_with (offset.place + length xs) (range_at us 0).start in
    elim (cases_Bool (is_joined xs us)) [
      | inl t ↦
          (let both = sym test ∙ t in
          let one = joined_one xs ys p last some both in
          let same = same_is (range_at xs p).contents (range_at ys 0).contents both in
          let begins = last_begins whole xs ys (put_before xs ys) offset p cut one is in
          let is_next : offset_after offset xs us ≡ offset_with (offset.place + p) (last_start offset xs) =
          cond-true (is_joined xs us) joined_offset apart_offset t ∙ ap (λ n. offset_with (offset.place + n) (last_start offset xs)) e in
          subst (IsStep whole xs ys offset) (sym is_next) (record {
            part = one_part whole xs ys (put_before xs ys) offset p cut one is;
            rest = one_next whole xs ys (put_before xs ys) offset p (last_start offset xs) cut one same is begins.0 begins.1;
          }))
      | inr f ↦
          (let two = joined_two xs ys p last some (sym test ∙ f) in
          let is_next : offset_after offset xs us ≡ offset_with (offset.place + length xs) (range_at ys 0).start =
          cond-false (is_joined xs us) joined_offset apart_offset f ∙ ap (λ n. offset_with (offset.place + length xs) n) (sym begin.start) in
          subst (IsStep whole xs ys offset) (sym is_next) (record {
            part = two_part whole xs ys (put_before xs ys) offset (omega arith) two is;
            rest = two_next whole xs ys (put_before xs ys) offset (omega arith) some two is;
          }))
    ]

-- ---- all tables

pub begin_alike : (u : SpanRanges) (us : List SpanRanges) → 0 < length u.ranges → BeginAlike u.ranges (joined_ranges (u ∷ us))
unfolding joined_ranges
begin_alike u us some = joined_first u.ranges (joined_ranges us) some

spans_cut : (held : Collection) (from : ℕ) (t u : SpanRanges) (us : List SpanRanges) (to p : ℕ) → AreOverSpans held from (t ∷ u ∷ us) to
    → p + 1 ≡ length t.ranges → t.to < to → IsCut t.ranges (joined_ranges (u ∷ us)) p
spans_cut held from t u us to p are last more =
    let own = are.1.table in
    let rest = table_over_spans held t.to (u ∷ us) to more are.2 in
    let begin = rest.first in
    let end = own.last p last in
    let rises = own.rises p (omega arith) in
    let after = rest.rises 0 rest.some in
    record { last_is = omega arith; some = rest.some; start = omega arith; limit = omega arith }

spans_rise : (held : Collection) (from : ℕ) (tables : List SpanRanges) (to : ℕ) → AreOverSpans held from tables to → 0 < length tables
    → from < to
spans_rise held from [] to are some = absurd (omega arith)
spans_rise held from (t ∷ []) to are some = let a = are.0 in let b = are.1.some in let c = are.2 in omega arith
spans_rise held from (t ∷ u ∷ us) to are some =
    let a = are.0 in let b = are.1.some in
    let c = spans_rise held t.to (u ∷ us) to are.2 (omega arith) in
    omega arith

abbrev pub high_of : List Offset → ℕ → ℕ → ℕ
high_of offsets i count = slice_index_or (places_of offsets) (suc i) count

head_place : (offset : Offset) (u : SpanRanges) (us : List SpanRanges) (d : ℕ)
    → slice_index_or (places_of (offsets_from offset (u ∷ us))) 0 d ≡ offset.place
head_place offset u [] d = refl
head_place offset u (t ∷ ts) d = refl

step : (held : Collection) (whole : List Range) (from : ℕ) (t u : SpanRanges) (us : List SpanRanges) (to : ℕ) (offset : Offset)
    → AreOverSpans held from (t ∷ u ∷ us) to → IsOffset whole (joined_ranges (t ∷ u ∷ us)) offset
    → IsStep whole t.ranges (joined_ranges (u ∷ us)) offset (offset_after offset t.ranges u.ranges)
unfolding joined_ranges
step held whole from t u us to offset are is =
    let some = are.1.table.some in
    let p : ℕ = length t.ranges - 1 in
    let last : p + 1 ≡ length t.ranges = omega arith in
    let more = spans_rise held t.to (u ∷ us) to are.2 (omega arith) in
    next_step whole t.ranges (joined_ranges (u ∷ us)) u.ranges offset p (spans_cut held from t u us to p are last more) (begin_alike u us are.2.1.table.some) is

-- each table stands at its offset
part_at : (held : Collection) (whole : List Range) (from : ℕ) (tables : List SpanRanges) (to : ℕ) (offset : Offset) (i : ℕ) (d : SpanRanges) (e : Offset)
    → AreOverSpans held from tables to → IsOffset whole (joined_ranges tables) offset → i < length tables
    → IsPart whole (get_or tables i d).ranges (get_or (offsets_from offset tables) i e) (high_of (offsets_from offset tables) i (length whole))
unfolding joined_ranges
part_at held whole from [] to offset i d e are is lt = absurd (omega arith)
part_at held whole from (t ∷ []) to offset zero d e are is lt =
    last_part whole t.ranges offset are.1.table.some (subst (λ rs. IsOffset whole rs offset) (joined_nil t.ranges) is)
part_at held whole from (t ∷ []) to offset (suc i) d e are is lt = absurd (omega arith)
part_at held whole from (t ∷ u ∷ us) to offset zero d e are is lt =
    let next = offset_after offset t.ranges u.ranges in
    subst (IsPart whole t.ranges offset) (sym (head_place next u us (length whole))) (step held whole from t u us to offset are is).part
part_at held whole from (t ∷ u ∷ us) to offset (suc i) d e are is lt =
    part_at held whole t.to (u ∷ us) to (offset_after offset t.ranges u.ranges) i d e are.2 (step held whole from t u us to offset are is).rest (omega arith)

-- all ranges stand at the first offset
first_placed : (held : Collection) (tables : List SpanRanges) (to : ℕ) → AreOverSpans held 1 tables to → 0 < length tables
    → IsOffset (joined_ranges tables) (joined_ranges tables) (record { place = 0; start = 1 })
first_placed held tables to are some =
    let t = table_over_spans held 1 tables to (spans_rise held 1 tables to are some) are in
    let first = t.first in
    record {
      length_is = omega arith;
      contents = refl;
      limit = refl;
      start = first;
      by = omega arith;
      later = λ k some lt. let e : 0 + k ≡ k = omega arith in ap (range_at (joined_ranges tables)) e;
    }

pub offsets_fit : (held : Collection) (tables : List SpanRanges) (to i : ℕ) (d : SpanRanges) (e : Offset) → AreOverSpans held 1 tables to → i < length tables
    → IsPart (joined_ranges tables) (get_or tables i d).ranges (get_or (offsets_of tables) i e) (high_of (offsets_of tables) i (length (joined_ranges tables)))
offsets_fit held tables to i d e are lt =
    part_at held (joined_ranges tables) 1 tables to (record { place = 0; start = 1 }) i d e are (first_placed held tables to are (omega arith)) lt

-- ---- offsets as a list

pub length_offsets : (offset : Offset) (tables : List SpanRanges) → length (offsets_from offset tables) ≡ length tables
length_offsets offset [] = refl
length_offsets offset (t ∷ []) = refl
length_offsets offset (t ∷ u ∷ us) = ap suc (length_offsets (offset_after offset t.ranges u.ranges) (u ∷ us))

-- each offset but the first is the one after that of the part before
pub offset_next : (offset : Offset) (parts : List SpanRanges) (i : ℕ) (d : SpanRanges) (e : Offset) → suc i < length parts
    → get_or (offsets_from offset parts) (suc i) e
    ≡ offset_after (get_or (offsets_from offset parts) i e) (get_or parts i d).ranges (get_or parts (suc i) d).ranges
offset_next offset [] i d e lt = absurd (omega arith)
offset_next offset (t ∷ []) i d e lt = absurd (omega arith)
offset_next offset (t ∷ u ∷ []) zero d e lt = refl
offset_next offset (t ∷ u ∷ v ∷ us) zero d e lt = refl
offset_next offset (t ∷ u ∷ us) (suc i) d e lt = offset_next (offset_after offset t.ranges u.ranges) (u ∷ us) i d e (omega arith)
