-- The ranges of some parts, and those of a part by where they begin.
use Rattle.std.proofs.Common.{◌≡◌, ℕ, suc, ◌+◌, ◌-◌, ◌<◌, ◌≤◌, List, [], ◌∷◌, length, map, take, drop, get_or, slice_index_or, refl, sym, ◌∙◌, ap, arith, add-one, subst}
use Rattle.std.proofs.Math.Seq.{take-length}
use Rattle.std.proofs.lemmas.List.{get_or-map, length-map}
use Rattle.s2ix_bag_pairs.specs.Collection.{Collection}
use Rattle.s2ix_table_walk.specs.Table.{Range, range_at, IsTableOver, leaf_end}
use Rattle.s2ix_table_walk.specs.LeafWindows.{HaveLeaves}
use Rattle.s2ix_table_walk.specs.Stretches.{IsStretch}
use Rattle.s2ix_table_spans.specs.SpanTable.{SpanRanges}
use Rattle.s2ix_table_faced.specs.declared.offset.Offset.{Offset}
use Rattle.s2ix_table_parts.specs.FaceSpans.{no_table, table_of}
use Rattle.s2ix_table_parts.specs.Neighbours.{held_in}
use Rattle.s2ix_table_faced.specs.Joined.{joined_ranges}
use Rattle.s2ix_table_parts.specs.Layers.{joined_layers}
use Rattle.s2ix_table_faced.specs.Layout.{covered}
use Rattle.s2ix_table_faced.specs.Whole.{AreJoined}
use Rattle.s2ix_table_parts.proofs.Cuts.{cut_is}
use Rattle.s2ix_table_faced.proofs.FirstParts.{start_of}
use Rattle.s2ix_table_faced.proofs.Reading.{no_offset, all_table, placed, places_rise, known}
use Rattle.s2ix_table_faced.proofs.Placing.{IsSpread}
use Rattle.s2ix_table_faced.proofs.Offsets.{high_of}

-- ---- all ranges of some parts

-- from where one part begins to the end of another
window_between : (whole first last : List Range) (offset offset_last : Offset) (high high_last leaf until : ℕ) → IsSpread whole first offset high
    → IsSpread whole last offset_last high_last → offset.place ≤ offset_last.place → (range_at first 0).start ≤ leaf → leaf < until
    → ((k : ℕ) → k + 1 ≡ length last → (range_at last k).limit ≡ until)
    → ((j k : ℕ) → j + 1 ≡ k → k < length whole → (range_at whole j).limit ≡ (range_at whole k).start)
    → HaveLeaves whole leaf until offset.place (offset_last.place + length last - offset.place)
window_between whole first last offset offset_last high high_last leaf until a b le begins later ends next =
    let some = b.some in
    let within = b.within in
    let by = a.by in
    let start = a.start in
    record {
      some = omega arith;
      within = omega arith;
      start = omega arith;
      later = later;
      limit = λ more.
          let own : ℕ = length last - 1 in
          let to = b.to own (omega arith) in
          let end = ends own (omega arith) in
          let after = next (offset_last.place + own) (offset.place + (offset_last.place + length last - offset.place)) (omega arith) more in
          omega arith;
    }

pub parts_window : {parts : List SpanRanges} {heavy : Collection} {starts : List ℕ} {offsets : List Offset} {count : ℕ} (first last leaf end : ℕ)
    (span : SpanRanges) → AreJoined parts heavy starts offsets count → first ≤ last → last < length parts → slice_index_or starts first 0 ≤ leaf
    → leaf < (table_of parts last).to → span ≡ table_of parts last → end ≡ (get_or offsets last no_offset).place + length span.ranges
    → ((get_or offsets first no_offset).place ≤ end)
    × HaveLeaves (joined_ranges (covered heavy parts)) leaf (table_of parts last).to (get_or offsets first no_offset).place
    (end - (get_or offsets first no_offset).place)
parts_window {parts} {heavy} {starts} {offsets} {count} first last leaf end span are order lt begins later same ends =
    let all = joined_ranges (covered heavy parts) in
    let first_part = placed first no_table no_offset are (omega arith) in
    let last_part = placed last no_table no_offset are lt in
    let le = places_rise first last are order lt in
    let first_is = known first are (omega arith) in
    let last_is = known last are lt in
    let from = first_is.table.first in
    let begin = cut_is first 1 parts leaf_end no_table are.neighbours (omega arith) in
    let start = start_of first are (omega arith) in
    let whole = all_table are in
    let have =
    window_between all (table_of parts first).ranges (table_of parts last).ranges (get_or offsets first no_offset) (get_or offsets last no_offset)
    (high_of offsets first count) (high_of offsets last count) leaf (table_of parts last).to first_part last_part le (omega arith) later
    last_is.table.last whole.next in
    let size = ends ∙ ap (λ (s : SpanRanges). (get_or offsets last no_offset).place + length s.ranges) same in (
      omega arith,
      subst (λ n. HaveLeaves all leaf (table_of parts last).to (get_or offsets first no_offset).place (n - (get_or offsets first no_offset).place))
          (sym size) have,
    )

-- ---- those between the first and the last one of a part

shifted : (starts : List ℕ) (k : ℕ) → slice_index_or (drop 1 starts) k 0 ≡ slice_index_or starts (suc k) 0
shifted [] k = refl
shifted (s ∷ ss) k = refl

start_at : (part : List Range) (starts : List ℕ) (k : ℕ) → starts ≡ map (λ (r : Range). r.start) part → k < length part
    → (range_at part k).start ≡ slice_index_or starts k 0
start_at part starts k is lt =
    sym (get_or-map (λ (r : Range). r.start) part k (record { start = 0; limit = 0; contents = [] }) 0 lt)
    ∙ ap (λ ss. slice_index_or ss k 0) (sym is)

stretch_part : (hs : Collection) (whole part : List Range) (offset : Offset) (high : ℕ) (starts : List ℕ) → IsTableOver hs 1 leaf_end whole
    → IsSpread whole part offset high → starts ≡ map (λ (r : Range). r.start) part
    → IsStretch whole (offset.place + 1) (length starts - 2) (drop 1 starts)
stretch_part hs whole part offset high starts t is same =
    let some = is.some in
    let within = is.within in
    let many : length starts ≡ length part = ap length same ∙ length-map part (λ (r : Range). r.start) in
    let fewer = length-drop starts (omega arith) in
    let begins : (k : ℕ) → k + 1 < length part → (range_at whole (offset.place + 1 + k)).start ≡ slice_index_or (drop 1 starts) k 0 = λ k lt.
    let e : offset.place + 1 + k ≡ offset.place + (k + 1) = omega arith in
    ap (λ n. (range_at whole n).start) e
    ∙ is.later (k + 1) (omega arith) lt
    ∙ start_at part starts (k + 1) same lt
    ∙ ap (λ n. slice_index_or starts n 0) (add-one k)
    ∙ sym (shifted starts k) in
    record {
      within = omega arith;
      room = λ more. omega arith;
      begins = λ k lt. begins k (omega arith);
      ends = λ k lt.
          let next : offset.place + 1 + k + 1 ≡ offset.place + 1 + (k + 1) = omega arith in
          t.next (offset.place + 1 + k) (offset.place + 1 + (k + 1)) next (omega arith) ∙ begins (k + 1) (omega arith);
    }
  where
    length-drop : (xs : List ℕ) → 0 < length xs → length (drop 1 xs) + 1 ≡ length xs
    length-drop [] more = absurd (omega arith)
    length-drop (x ∷ xs) more = omega arith

pub part_stretch : {parts : List SpanRanges} {heavy : Collection} {starts : List ℕ} {offsets : List Offset} {count : ℕ} (part : ℕ) (span : SpanRanges) (own : List ℕ) → AreJoined parts heavy starts offsets count → part < length parts → span ≡ table_of parts part
    → own ≡ map (λ (r : Range). r.start) span.ranges
    → IsStretch (joined_ranges (covered heavy parts)) ((get_or offsets part no_offset).place + 1) (length own - 2) (drop 1 own)
part_stretch {parts} {heavy} {starts} {offsets} {count} part span own are lt same is =
    let at = placed part no_table no_offset are lt in
    let begins = is ∙ ap (λ (s : SpanRanges). map (λ (r : Range). r.start) s.ranges) same in
    let table = all_table are in
    stretch_part (joined_layers (held_in parts) heavy) (joined_ranges (covered heavy parts)) (table_of parts part).ranges (get_or offsets part no_offset)
    (high_of offsets part count) own table at begins

-- each part has a range
pub some_starts : {parts : List SpanRanges} {heavy : Collection} {starts : List ℕ} {offsets : List Offset} {count : ℕ} (part : ℕ) (span : SpanRanges) (own : List ℕ) → AreJoined parts heavy starts offsets count → part < length parts → span ≡ table_of parts part
    → own ≡ map (λ (r : Range). r.start) span.ranges → 1 ≤ length own
some_starts {parts} {heavy} {starts} {offsets} {count} part span own are lt same is =
    let some = (placed part no_table no_offset are lt).some in
    let many = ap length is ∙ length-map span.ranges (λ (r : Range). r.start) in
    let ranges = ap (λ (s : SpanRanges). length s.ranges) same in
    omega arith

-- all of a list but its first element, by their number
pub rest_of : (xs : List ℕ) → take (length xs - 1) (drop 1 xs) ≡ drop 1 xs
rest_of [] = refl
rest_of (x ∷ xs) = let e : length (x ∷ xs) - 1 ≡ length xs = omega arith in ap (λ n. take n xs) e ∙ take-length xs
