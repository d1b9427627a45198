-- Where the ranges of each table stand among the joined ones.
use Rattle.std.specs.Prelude.{◌≡◌, ℕ, ◌+◌, ◌-◌, ◌<◌, ◌≤◌, ◌==◌, if◌then◌else◌, Bool, List, [], ◌∷◌, length, map, drop, slice_index_or}
use Rattle.s2ix_table_walk.specs.Table.{Range, range_at}
use Rattle.s2ix_table_spans.specs.SpanTable.{SpanRanges}
use Rattle.s2ix_table_spans.specs.Starts.{IsLastStart}
use Rattle.s2ix_table_parts.specs.FaceSpans.{table_of}
use Rattle.s2ix_table_faced.specs.Joined.{is_same}
use Rattle.s2ix_table_faced.specs.declared.offset.Offset.{Offset}

-- whether the last range of a table and the first one of the next are one
abbrev pub is_joined : List Range → List Range → Bool
is_joined rs ss = is_same (range_at rs (length rs - 1)).contents (range_at ss 0).contents

-- where the last range of a table begins
abbrev pub last_start : Offset → List Range → ℕ
last_start offset rs = if length rs == 1 then offset.start else (range_at rs (length rs - 1)).start

-- the offset of the next table
abbrev pub offset_after : Offset → List Range → List Range → Offset
offset_after offset rs ss =
    if is_joined rs ss then record { place = offset.place + (length rs - 1); start = last_start offset rs }
    else record { place = offset.place + length rs; start = (range_at ss 0).start }

-- the offsets of tables, of which the first has this one
abbrev pub offsets_from : Offset → List SpanRanges → List Offset
offsets_from offset [] = []
offsets_from offset (t ∷ []) = offset ∷ []
offsets_from offset (t ∷ u ∷ ts) = offset ∷ offsets_from (offset_after offset t.ranges u.ranges) (u ∷ ts)

-- the offsets of tables from the first leaf on
abbrev pub offsets_of : List SpanRanges → List Offset
offsets_of tables = offsets_from (record { place = 0; start = 1 }) tables

-- the places of offsets
abbrev pub places_of : List Offset → List ℕ
places_of offsets = map (λ (s : Offset). s.place) offsets

-- the place among all of a range that has this place of its own in a part
abbrev pub place_on : List Offset → ℕ → ℕ → ℕ
place_on offsets part own = slice_index_or (places_of offsets) part 0 + own

-- a part has a range at this place of its own
pub record HasRange (parts : List SpanRanges) (part own : ℕ) : Type 0 where
  pub listed : part < length parts
  pub within : own < length (table_of parts part).ranges

-- a part has one of `count` ranges at this place of its own: the part's offset is the last one that is not after the range
pub record HasOwn (offsets : List Offset) (count part own : ℕ) : Type 0 where
  pub last : IsLastStart (places_of offsets) (place_on offsets part own) part
  pub within : place_on offsets part own < count

-- the offset of a part, by the part's number
abbrev pub offset_at : List Offset → ℕ → Offset
offset_at offsets part = slice_index_or offsets part (record { place = 0; start = 0 })

-- from a part on offsets are those of the tables there, if the first of them is that of its table
abbrev pub AreOffsetsFrom : ℕ → List Offset → List SpanRanges → Type 0
AreOffsetsFrom part offsets tables = drop part offsets ≡ offsets_from (offset_at offsets part) (drop part tables)

-- an offset whose place is moved as far as from one place to another
abbrev pub moved : ℕ → ℕ → Offset → Offset
moved from to offset = record { place = offset.place - from + to; start = offset.start }

-- offsets whose places can be moved so: none lies before the one place, and none gets too great
abbrev pub AreMovable : ℕ → ℕ → List Offset → Type 0
AreMovable from to [] = Unit {0}
AreMovable from to (offset ∷ offsets) = (from ≤ offset.place) × (offset.place - from + to ≤ 4000000) × AreMovable from to offsets
