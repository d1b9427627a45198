-- The ranges at which parts begin.
use Rattle.std.proofs.Common.{◌≡◌, ℕ, ◌+◌, ◌<◌, ◌≤◌, List, [], ◌∷◌, length, get_or, slice_index_or, ◌∙◌, ap, arith}
use Rattle.s2ix_table_walk.specs.Shown.{AreBorders}
use Rattle.s2ix_table_walk.specs.Table.{range_at, leaf_end}
use Rattle.s2ix_table_spans.specs.SpanTable.{SpanRanges}
use Rattle.s2ix_table_faced.specs.declared.offset.Offset.{Offset}
use Rattle.s2ix_table_parts.specs.FaceSpans.{no_table}
use Rattle.s2ix_table_faced.specs.Joined.{joined_ranges}
use Rattle.s2ix_table_parts.specs.Neighbours.{AreNeighbours}
use Rattle.s2ix_table_faced.specs.Offsets.{places_of}
use Rattle.s2ix_table_faced.specs.Layout.{covered}
use Rattle.s2ix_bag_pairs.specs.Collection.{Collection}
use Rattle.s2ix_table_faced.specs.Whole.{AreJoined}
use Rattle.s2ix_table_faced.proofs.Reading.{no_offset, many_places, place_of, placed, places_rise}

-- a span has a leaf number at least
length_parts : (from : ℕ) (parts : List SpanRanges) (to : ℕ) → AreNeighbours from parts to → from + length parts ≤ to
length_parts from [] to are = omega (arith, are)
length_parts from (t ∷ ts) to are =
    let begin = are.0 in
    let some = are.1.within.some in
    let rest = length_parts t.to ts to are.2 in
    omega arith

pub parts_begin : {parts : List SpanRanges} {heavy : Collection} {starts : List ℕ} {offsets : List Offset} {count : ℕ}
    → AreJoined parts heavy starts offsets count → AreBorders (joined_ranges (covered heavy parts)) (places_of offsets)
parts_begin {parts} {heavy} {starts} {offsets} {count} are =
    let many = many_places are in
    let short = length_parts 1 parts leaf_end are.neighbours in
    record {
      within = λ m lt.
          let part = placed m no_table no_offset are (omega arith) in
          let some = part.some in
          let within = part.within in
          let place = place_of m 0 are (omega arith) in
          omega arith;
      within_limit = omega arith;
      rise = λ j m next lt.
          let le = places_rise j m are (omega arith) (omega arith) in
          let one = place_of j 0 are (omega arith) in
          let other = place_of m 0 are (omega arith) in
          omega arith;
    }

pub part_begins : {parts : List SpanRanges} {heavy : Collection} {starts : List ℕ} {offsets : List Offset} {count : ℕ} (part : ℕ)
    → AreJoined parts heavy starts offsets count → part < length parts
    → (range_at (joined_ranges (covered heavy parts)) (slice_index_or (places_of offsets) part 0)).start ≡ (get_or offsets part no_offset).start
part_begins {parts} {heavy} {starts} {offsets} {count} part are lt =
    ap (λ k. (range_at (joined_ranges (covered heavy parts)) k).start) (place_of part 0 are lt) ∙ (placed part no_table no_offset are lt).start
