-- Which part has a range, and where.
use Rattle.std.proofs.Common.{◌≡◌, ℕ, ◌+◌, ◌-◌, ◌%◌, ◌<◌, ◌≤◌, List, length, get_or, sym, ap, arith, subst}
use Rattle.s2ix_table_spans.specs.SpanTable.{SpanRanges}
use Rattle.s2ix_table_spans.specs.Starts.{IsAmong, IsLastStart}
use Rattle.s2ix_table_faced.specs.declared.offset.Offset.{Offset}
use Rattle.s2ix_table_parts.specs.FaceSpans.{table_of}
use Rattle.s2ix_table_faced.specs.Offsets.{places_of, place_on, HasOwn, HasRange}
use Rattle.s2ix_bag_pairs.specs.Collection.{Collection}
use Rattle.s2ix_table_faced.specs.Whole.{AreJoined}
use Rattle.s2ix_table_faced.proofs.OneFace.{some_parts}
use Rattle.s2ix_table_faced.proofs.Reading.{no_offset, place_of, first_place, many_offsets, many_places, ends_few, among}

-- what a wrapped difference below a count tells, where nothing wraps at the end
record IsBetween (inner_from k count past : ℕ) : Type 0 where
  pub past_is : inner_from + past ≡ k
  pub to : k < inner_from + count

between : (inner_from k count past : ℕ) → k < 18446744073709551616 → inner_from + count < 18446744073709551616
    → past ≡ (k + (18446744073709551616 - inner_from)) % 18446744073709551616 → past < count → IsBetween inner_from k count past
between inner_from k count past fits end is lt = record { past_is = omega arith; to = omega arith }

-- a place past the first range of a part, before its last one
pub record IsInner (parts : List SpanRanges) (offsets : List Offset) (k part past : ℕ) : Type 0 where
  pub next : HasRange parts part (past + 1 + 1)
  pub place : place_on offsets part (past + 1) ≡ k

pub inner_near : {parts : List SpanRanges} {heavy : Collection} {starts : List ℕ} {offsets : List Offset} {count : ℕ} (k part past many : ℕ) (o : Offset)
    → AreJoined parts heavy starts offsets count → part < length parts → many ≡ length (table_of parts part).ranges
    → o ≡ get_or offsets part no_offset → k < 18446744073709551616
    → past ≡ (k + (18446744073709551616 - (o.place + 1))) % 18446744073709551616 → past < many - 2
    → IsInner parts offsets k part past
inner_near {parts} {heavy} {starts} {offsets} {count} k part past many o are lt ranges read fits is less =
    let within_limit = ends_few part are lt in
    let at = ap (λ (x : Offset). x.place) read in
    let place = place_of part 0 are lt in
    let here = between (o.place + 1) k (many - 2) past fits (omega arith) is less in
    let past_is = here.past_is in
    record { next = record { listed = lt; within = omega arith }; place = omega arith }

-- a range by the last offset that is not after it, and its place from there
pub record IsOwnOf (parts : List SpanRanges) (offsets : List Offset) (count k part own : ℕ) : Type 0 where
  pub from : (get_or offsets part no_offset).place ≤ k
  pub range : HasRange parts part own
  pub has : HasOwn offsets count part own
  pub place : place_on offsets part own ≡ k

pub own_of : {parts : List SpanRanges} {heavy : Collection} {starts : List ℕ} {offsets : List Offset} {count : ℕ} (k part : ℕ)
    → AreJoined parts heavy starts offsets count → IsLastStart (places_of offsets) k part → k < count
    → IsOwnOf parts offsets count k part (k - (get_or offsets part no_offset).place)
own_of {parts} {heavy} {starts} {offsets} {count} k part are last within =
    let many = many_places are in
    let listed = last.within in
    let at = among k part are last within in
    let from = at.from in
    let offset = place_of part 0 are (omega arith) in
    let place : place_on offsets part (k - (get_or offsets part no_offset).place) ≡ k = omega arith in
    record {
      from = from;
      range = record { listed = omega arith; within = at.own };
      has = record { last = subst (λ n. IsLastStart (places_of offsets) n part) (sym place) last; within = omega arith };
      place = place;
    }

pub last_listed : {parts : List SpanRanges} {heavy : Collection} {starts : List ℕ} {offsets : List Offset} {count : ℕ} {k : ℕ} (part : ℕ) → AreJoined parts heavy starts offsets count → IsLastStart (places_of offsets) k part → part < length parts
last_listed {parts} {heavy} {starts} {offsets} {count} part are last = let listed = last.within in let many = many_places are in omega arith

-- for a range all offsets are searched: that of the first part is not after it
pub all_offsets : {parts : List SpanRanges} {heavy : Collection} {starts : List ℕ} {offsets : List Offset} {count : ℕ} (k : ℕ)
    → AreJoined parts heavy starts offsets count → IsAmong (places_of offsets) k 0 (length offsets)
all_offsets {parts} {heavy} {starts} {offsets} {count} k are =
    let some = some_parts parts are.neighbours in
    let many = many_offsets are in
    let places = many_places are in
    let first = first_place are in
    record { some = omega arith; within = omega arith; by = omega arith; after = λ less. absurd (omega arith) }
