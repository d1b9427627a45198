-- Joining parts, one after the other.
use Rattle.std.proofs.Common.{◌≡◌, ℕ, suc, ◌+◌, ◌<◌, ◌≤◌, List, [], ◌∷◌, length, get_or, slice_index_or, arith}
use Rattle.std.proofs.lemmas.List.{length-map, get_or_past}
use Rattle.s2ix_bag_pairs.specs.Collection.{Collection}
use Rattle.s2ix_table_walk.specs.Table.{leaf_end}
use Rattle.s2ix_table_spans.specs.SpanTable.{SpanRanges}
use Rattle.s2ix_table_spans.proofs.Few.{few_ranges}
use Rattle.s2ix_table_faced.specs.declared.offset.Offset.{Offset}
use Rattle.s2ix_table_parts.specs.FaceSpans.{no_table, table_of, starts_of}
use Rattle.s2ix_table_faced.specs.Joined.{joined_ranges}
use Rattle.s2ix_table_parts.specs.Neighbours.{AreNeighbours}
use Rattle.s2ix_table_faced.specs.Offsets.{offset_at, offsets_of, places_of}
use Rattle.s2ix_table_faced.proofs.Joining.{AreOverSpans, table_over_spans}
use Rattle.s2ix_table_faced.proofs.Offsets.{high_of, offsets_fit, length_offsets}
use Rattle.s2ix_table_faced.proofs.Reading.{first_offset, no_offset}

-- the ranges of a part end among all, of which there are few
pub ends_few : (held : Collection) (parts : List SpanRanges) (i : ℕ) → AreOverSpans held 1 parts leaf_end → length held ≤ 1000000 → i < length parts
    → (get_or (offsets_of parts) i no_offset).place + length (table_of parts i).ranges ≤ 2000001
ends_few held parts i are within_limit lt =
    let within = (offsets_fit held parts leaf_end i no_table no_offset are lt).within in
    let ranges = few_ranges held 1 leaf_end (joined_ranges parts) (table_over_spans held 1 parts leaf_end (omega arith) are) in
    omega arith

-- all ranges are counted
pub all_counted : (held : Collection) (parts : List SpanRanges) (i count : ℕ) → AreOverSpans held 1 parts leaf_end → suc i ≡ length parts
    → count ≡ (offset_at (offsets_of parts) i).place + length (table_of parts i).ranges → count ≡ length (joined_ranges parts)
all_counted held parts i count are all sum =
    let lt : i < length parts = omega arith in
    let part = offsets_fit held parts leaf_end i no_table no_offset are lt in
    let many_offsets = length_offsets first_offset parts in
    let many = length-map (offsets_of parts) (λ (s : Offset). s.place) in
    let high : high_of (offsets_of parts) i (length (joined_ranges parts)) ≡ length (joined_ranges parts) =
    get_or_past (places_of (offsets_of parts)) (suc i) (length (joined_ranges parts)) (omega arith) in
    let reach = part.reach in
    let within = part.within in
    omega arith

pub first_start : (parts : List SpanRanges) → AreNeighbours 1 parts leaf_end → slice_index_or (starts_of parts) 0 0 ≡ 1
first_start [] are = absurd (omega (arith, are))
first_start (t ∷ ts) are = are.0
