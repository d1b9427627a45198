-- What the parts and their offsets say of the joined ranges.
use Rattle.std.proofs.Common.{◌≡◌, ℕ, zero, suc, ◌+◌, ◌-◌, ◌<◌, ◌≤◌, inl, inr, List, [], ◌∷◌, ◌++◌, length, get_or, slice_index_or, sym, ◌∙◌, ap, arith, subst, add-one}
use Rattle.std.proofs.lemmas.Bool.{cases_lt, cases_eq}
use Rattle.std.proofs.lemmas.List.{get_or-map, length-map, get_or_past, get_or_default}
use Rattle.std.proofs.lemmas.Option.{slice_get_past}
use Rattle.s2ix_bag_pairs.specs.Collection.{Collection}
use Rattle.s2ix_table_walk.specs.Contents.{contents_at}
use Rattle.s2ix_table_walk.specs.Table.{Range, range_at, leaf_end, IsFound, IsTableOver}
use Rattle.s2ix_table_spans.specs.Chains.{chain_of}
use Rattle.s2ix_table_spans.specs.SpanTable.{SpanRanges, IsSpanTable}
use Rattle.s2ix_table_spans.specs.Starts.{IsLastStart}
use Rattle.s2ix_table_spans.proofs.Chains.{chain_none}
use Rattle.s2ix_table_spans.proofs.Few.{few_ranges}
use Rattle.s2ix_table_faced.specs.declared.offset.Offset.{Offset}
use Rattle.s2ix_table_parts.specs.FaceSpans.{no_table, table_of}
use Rattle.s2ix_table_parts.specs.Neighbours.{held_in}
use Rattle.s2ix_table_faced.specs.Joined.{joined_ranges}
use Rattle.s2ix_table_parts.specs.Layers.{joined_layers}
use Rattle.s2ix_table_faced.specs.Layout.{cover, covered}
use Rattle.s2ix_table_faced.specs.Offsets.{offsets_of, places_of, place_on, HasOwn, HasRange}
use Rattle.s2ix_table_faced.specs.Whole.{AreJoined}
use Rattle.s2ix_table_parts.proofs.Neighbours.{span_known}
use Rattle.s2ix_table_faced.proofs.Offsets.{high_of, offsets_fit, length_offsets}
use Rattle.s2ix_table_faced.proofs.Placing.{IsPart, IsSpread, spread}
use Rattle.s2ix_table_faced.proofs.Covered.{covered_at, covered_over, covered_table}
use Rattle.s2ix_table_faced.proofs.RangesOver.{contents_over, length_over}

abbrev pub first_offset : Offset
first_offset = record { place = 0; start = 1 }

abbrev pub no_offset : Offset
no_offset = record { place = 0; start = 0 }

-- ---- each part among all

-- the joined ranges are a table of all pairs
pub all_table : {parts : List SpanRanges} {heavy : Collection} {starts : List ℕ} {offsets : List Offset} {count : ℕ} → AreJoined parts heavy starts offsets count
    → IsTableOver (joined_layers (held_in parts) heavy) 1 leaf_end (joined_ranges (covered heavy parts))
all_table {parts} {heavy} {starts} {offsets} {count} are =
    covered_table heavy 1 parts leaf_end (omega arith) are.neighbours are.heavy_rises are.under are.apart

-- a part and its offset say what the joined ranges are there
placed_over : {parts : List SpanRanges} {heavy : Collection} {starts : List ℕ} {offsets : List Offset} {count : ℕ} (i : ℕ) (d : SpanRanges) (e : Offset) → AreJoined parts heavy starts offsets count → i < length parts
    → IsPart (joined_ranges (covered heavy parts)) (cover heavy (get_or parts i d)).ranges (get_or offsets i e) (high_of offsets i count)
placed_over {parts} {heavy} {starts} {offsets} {count} i d e are lt =
    let shown = covered heavy parts in
    let all = joined_ranges shown in
    let own = (cover heavy (get_or parts i d)).ranges in
    let many : length shown ≡ length parts = length-map parts (cover heavy) in
    subst (λ n. IsPart all own (get_or offsets i e) (high_of offsets i n)) (sym are.counted)
    (subst (λ ss. IsPart all own (get_or ss i e) (high_of ss i (length all))) (sym are.offsets_are)
    (subst (λ (t : SpanRanges). IsPart all t.ranges (get_or (offsets_of shown) i e) (high_of (offsets_of shown) i (length all))) (covered_at heavy parts i d d lt)
    (offsets_fit (joined_layers (held_in parts) heavy) shown leaf_end i d e
    (covered_over heavy 1 parts leaf_end are.neighbours are.heavy_rises are.under are.apart) (omega arith))))

pub placed : {parts : List SpanRanges} {heavy : Collection} {starts : List ℕ} {offsets : List Offset} {count : ℕ} (i : ℕ) (d : SpanRanges) (e : Offset) → AreJoined parts heavy starts offsets count → i < length parts
    → IsSpread (joined_ranges (covered heavy parts)) (get_or parts i d).ranges (get_or offsets i e) (high_of offsets i count)
placed {parts} {heavy} {starts} {offsets} {count} i d e are lt =
    let t = get_or parts i d in
    spread (joined_ranges (covered heavy parts)) t.ranges (contents_at t.from heavy) (get_or offsets i e) (high_of offsets i count)
    (placed_over i d e are lt)

pub known : {parts : List SpanRanges} {heavy : Collection} {starts : List ℕ} {offsets : List Offset} {count : ℕ} (i : ℕ) → AreJoined parts heavy starts offsets count → i < length parts → IsSpanTable (table_of parts i)
known {parts} {heavy} {starts} {offsets} {count} i are lt = span_known 1 parts leaf_end i no_table are.neighbours lt

pub many_offsets : {parts : List SpanRanges} {heavy : Collection} {starts : List ℕ} {offsets : List Offset} {count : ℕ} → AreJoined parts heavy starts offsets count → length offsets ≡ length parts
many_offsets {parts} {heavy} {starts} {offsets} {count} are =
    ap length are.offsets_are ∙ length_offsets first_offset (covered heavy parts) ∙ length-map parts (cover heavy)

pub many_places : {parts : List SpanRanges} {heavy : Collection} {starts : List ℕ} {offsets : List Offset} {count : ℕ} → AreJoined parts heavy starts offsets count → length (places_of offsets) ≡ length parts
many_places {parts} {heavy} {starts} {offsets} {count} are = length-map offsets (λ (s : Offset). s.place) ∙ many_offsets are

-- there are few ranges
pub few_joined : {parts : List SpanRanges} {heavy : Collection} {starts : List ℕ} {offsets : List Offset} {count : ℕ} → AreJoined parts heavy starts offsets count → count ≤ 2000001
few_joined {parts} {heavy} {starts} {offsets} {count} are =
    let within_limit = are.within_limit in
    let counted = are.counted in
    let ranges = few_ranges (joined_layers (held_in parts) heavy) 1 leaf_end (joined_ranges (covered heavy parts)) (all_table are) in
    omega arith

place_at : (offsets : List Offset) (i n : ℕ) (e : Offset) → i < length offsets → slice_index_or (places_of offsets) i n ≡ (get_or offsets i e).place
place_at offsets i n e lt = get_or-map (λ (s : Offset). s.place) offsets i e n lt

pub place_of : {parts : List SpanRanges} {heavy : Collection} {starts : List ℕ} {offsets : List Offset} {count : ℕ} (i n : ℕ) → AreJoined parts heavy starts offsets count → i < length parts → slice_index_or (places_of offsets) i n ≡ (get_or offsets i no_offset).place
place_of {parts} {heavy} {starts} {offsets} {count} i n are lt = let many = many_offsets are in place_at offsets i n no_offset (omega arith)

pub first_place : {parts : List SpanRanges} {heavy : Collection} {starts : List ℕ} {offsets : List Offset} {count : ℕ} → AreJoined parts heavy starts offsets count → slice_index_or (places_of offsets) 0 0 ≡ 0
first_place {parts = []} are = ap (λ ss. slice_index_or (places_of ss) 0 0) are.offsets_are
first_place {parts = t ∷ []} are = ap (λ ss. slice_index_or (places_of ss) 0 0) are.offsets_are
first_place {parts = t ∷ u ∷ us} are = ap (λ ss. slice_index_or (places_of ss) 0 0) are.offsets_are

-- no offset has a place above a later one
pub places_rise : {parts : List SpanRanges} {heavy : Collection} {starts : List ℕ} {offsets : List Offset} {count : ℕ} (i j : ℕ) → AreJoined parts heavy starts offsets count → i ≤ j → j < length parts
    → (get_or offsets i no_offset).place ≤ (get_or offsets j no_offset).place
places_rise {parts} {heavy} {starts} {offsets} {count} i zero are le lt = let e : i ≡ 0 = omega arith in let same = ap (λ n. (get_or offsets n no_offset).place) e in omega arith
places_rise {parts} {heavy} {starts} {offsets} {count} i (suc j) are le lt =
    let many = many_offsets are in
    elim (cases_eq i (suc j)) [
      | inl e ↦ (let same = ap (λ n. (get_or offsets n no_offset).place) e in omega arith)
      | inr ne ↦
          (let rest = places_rise i j are (omega (arith, ne)) (omega arith) in
          let above = (placed j no_table no_offset are (omega arith)).above in
          let high : high_of offsets j count ≡ (get_or offsets (suc j) no_offset).place = place_at offsets (suc j) count no_offset (omega arith) in
          omega arith)
    ]

-- an offset that was read
pub offset_read : {parts : List SpanRanges} {heavy : Collection} {starts : List ℕ} {offsets : List Offset} {count : ℕ} (i : ℕ) (o : Offset) → AreJoined parts heavy starts offsets count → i < length parts → o ≡ get_or offsets i o → o ≡ get_or offsets i no_offset
offset_read {parts} {heavy} {starts} {offsets} {count} i o are lt is = let many = many_offsets are in is ∙ get_or_default offsets i o no_offset (omega arith)

-- how far the ranges of a part reach
pub ends_few : {parts : List SpanRanges} {heavy : Collection} {starts : List ℕ} {offsets : List Offset} {count : ℕ} (i : ℕ) → AreJoined parts heavy starts offsets count → i < length parts → (get_or offsets i no_offset).place + length (table_of parts i).ranges ≤ 2000001
ends_few {parts} {heavy} {starts} {offsets} {count} i are lt =
    let within_limit = few_joined are in
    let counted = are.counted in
    let within = (placed i no_table no_offset are lt).within in
    omega arith

-- the offset that a search finds for a range has it: at most its part's last one, and none that reaches on to the next part
pub record IsAmong (parts : List SpanRanges) (offsets : List Offset) (count k f : ℕ) : Type 0 where
  pub from : (get_or offsets f no_offset).place ≤ k
  pub below : k < high_of offsets f count
  pub own : k - (get_or offsets f no_offset).place < length (table_of parts f).ranges

pub among : {parts : List SpanRanges} {heavy : Collection} {starts : List ℕ} {offsets : List Offset} {count : ℕ} (k f : ℕ) → AreJoined parts heavy starts offsets count → IsLastStart (places_of offsets) k f → k < count → IsAmong parts offsets count k f
among {parts} {heavy} {starts} {offsets} {count} k f are last lt =
    let many = many_places are in
    let listed = last.within in
    let part = placed f no_table no_offset are (omega arith) in
    let reach = part.reach in
    let from = last.by in
    let place = place_of f 0 are (omega arith) in
    let below : k < high_of offsets f count = elim (cases_lt (f + 1) (length parts)) [
      | inl less ↦
          (let next = last.next (omega arith) in
          let same : slice_index_or (places_of offsets) (f + 1) 0 ≡ high_of offsets f count =
          ap (λ n. slice_index_or (places_of offsets) n 0) (add-one f)
          ∙ place_of (suc f) 0 are (omega arith)
          ∙ sym (place_of (suc f) count are (omega arith)) in
          omega arith)
      | inr past ↦ (let none : high_of offsets f count ≡ count = get_or_past (places_of offsets) (suc f) count (omega arith) in omega arith)
    ] in
    record { from = omega arith; below = below; own = omega arith }

-- ---- a range of the whole, read in its part

pub record IsReadIn (whole part : List Range) (offset : Offset) (k own : ℕ) : Type 0 where
  pub within : own < length part
  pub limit : (range_at whole k).limit ≡ (range_at part own).limit
  pub begins : own ≡ 0 → (range_at whole k).start ≡ offset.start
  pub start : 0 < own → (range_at whole k).start ≡ (range_at part own).start

pub read_part : (whole part : List Range) (offset : Offset) (high own : ℕ) → IsSpread whole part offset high → offset.place + own < high
    → own < length part → IsReadIn whole part offset (offset.place + own) own
read_part whole part offset high own is below lt = record {
  within = lt;
  limit = is.limit own lt below;
  begins = λ none. let e : offset.place + own ≡ offset.place = omega arith in ap (λ n. (range_at whole n).start) e ∙ is.start;
  start = λ some. is.later own some lt;
}

-- the range in its part
pub is_read : {parts : List SpanRanges} {heavy : Collection} {starts : List ℕ} {offsets : List Offset} {count : ℕ} (part own : ℕ) → AreJoined parts heavy starts offsets count → HasOwn offsets count part own
    → IsReadIn (joined_ranges (covered heavy parts)) (table_of parts part).ranges (get_or offsets part no_offset) (place_on offsets part own) own
is_read {parts} {heavy} {starts} {offsets} {count} part own are has =
    let many = many_places are in
    let listed = has.last.within in
    let place = place_of part 0 are (omega arith) in
    let is = placed part no_table no_offset are (omega arith) in
    let at = among (place_on offsets part own) part are has.last has.within in
    let below = at.below in
    let lt = at.own in
    let read = read_part (joined_ranges (covered heavy parts)) (table_of parts part).ranges (get_or offsets part no_offset) (high_of offsets part count) own
    is (omega arith) (omega arith) in
    subst (λ n. IsReadIn (joined_ranges (covered heavy parts)) (table_of parts part).ranges (get_or offsets part no_offset) (n + own) own) (sym place) read

-- each range of a part has, with the heavy pairs over the part, the contents of one of all
pub same_contents : {parts : List SpanRanges} {heavy : Collection} {starts : List ℕ} {offsets : List Offset} {count : ℕ} (part own : ℕ) → AreJoined parts heavy starts offsets count → HasRange parts part own
    → (range_at (joined_ranges (covered heavy parts)) (place_on offsets part own)).contents
    ≡ (range_at (table_of parts part).ranges own).contents ++ contents_at (table_of parts part).from heavy
same_contents {parts} {heavy} {starts} {offsets} {count} part own are has =
    let t = table_of parts part in
    let over = contents_at t.from heavy in
    let within = has.within in
    let len = length_over over t.ranges in
    let place = place_of part 0 are has.listed in
    ap (λ n. (range_at (joined_ranges (covered heavy parts)) (n + own)).contents) place
    ∙ (placed_over part no_table no_offset are has.listed).contents own (omega arith)
    ∙ contents_over over t.ranges own within

-- a range that is neither the first nor the last one of its part
pub record IsInside (whole part : List Range) (k own : ℕ) : Type 0 where
  pub start : (range_at whole k).start ≡ (range_at part own).start
  pub limit : (range_at whole k).limit ≡ (range_at part (own + 1)).start

pub inside : {parts : List SpanRanges} {heavy : Collection} {starts : List ℕ} {offsets : List Offset} {count : ℕ} (part own : ℕ) → AreJoined parts heavy starts offsets count → HasRange parts part (own + 1) → 0 < own
    → IsInside (joined_ranges (covered heavy parts)) (table_of parts part).ranges (place_on offsets part own) own
inside {parts} {heavy} {starts} {offsets} {count} part own are has later =
    let all = joined_ranges (covered heavy parts) in
    let place = place_of part 0 are has.listed in
    let here : place_on offsets part own ≡ (get_or offsets part no_offset).place + own = omega arith in
    let is = placed part no_table no_offset are has.listed in
    let within = is.within in
    let lt = has.within in
    let table = all_table are in
    let next : place_on offsets part own + 1 ≡ (get_or offsets part no_offset).place + (own + 1) = omega arith in
    record {
      start = ap (λ n. (range_at all n).start) here ∙ is.later own later (omega arith);
      limit = table.next (place_on offsets part own) ((get_or offsets part no_offset).place + (own + 1)) next (omega arith)
          ∙ is.later (own + 1) (omega arith) lt;
    }

pub found_part : (whole part : List Range) (offset : Offset) (high j q : ℕ) → IsSpread whole part offset high → IsFound part j q
    → IsFound whole (offset.place + j) q
found_part whole part offset high j q is found =
    let own = found.within in
    let within = is.within in
    let start = found.start in
    let limit = found.limit in
    let to = is.to j own in
    record {
      within = omega arith;
      start = elim (cases_eq j 0) [
        | inl none ↦
            (let e : offset.place + j ≡ offset.place = omega arith in
            let a = ap (λ n. (range_at whole n).start) e in
            let b = is.start in
            let c = is.by in
            let d = ap (λ n. (range_at part n).start) none in
            omega arith)
        | inr ne ↦ (let a = is.later j (omega (arith, ne)) own in omega arith)
      ];
      limit = omega arith;
    }

pub found_in : {parts : List SpanRanges} {heavy : Collection} {starts : List ℕ} {offsets : List Offset} {count : ℕ} (part j q : ℕ) (span : SpanRanges) → AreJoined parts heavy starts offsets count → part < length parts → span ≡ table_of parts part → IsFound span.ranges j q
    → IsFound (joined_ranges (covered heavy parts)) ((get_or offsets part no_offset).place + j) q
found_in {parts} {heavy} {starts} {offsets} {count} part j q span are lt same found =
    let is = placed part no_table no_offset are lt in
    let own = subst (λ (s : SpanRanges). IsFound s.ranges j q) same found in
    found_part (joined_ranges (covered heavy parts)) (table_of parts part).ranges (get_or offsets part no_offset) (high_of offsets part count) j q is own

-- ---- places

-- a place whose chain has a pair is one of a part
pub part_of_place : (parts : List SpanRanges) (part node : ℕ) → 0 < length (chain_of (table_of parts part).held node) → part < length parts
part_of_place parts part node some =
    elim (cases_lt part (length parts)) [
      | inl lt ↦ lt
      | inr past ↦
          (let none : table_of parts part ≡ no_table = get_or_past parts part no_table (omega arith) in
          let same = ap (λ (t : SpanRanges). length (chain_of t.held node)) none in
          let nil = ap length (chain_none [] node (slice_get_past [] node (omega arith))) in
          absurd (omega arith))
    ]

-- a chain of a part that was read
pub chain_read : (span table : SpanRanges) (node : ℕ) → span ≡ table → chain_of span.held node ≡ chain_of table.held node
chain_read span table node is = ap (λ (s : SpanRanges). chain_of s.held node) is
