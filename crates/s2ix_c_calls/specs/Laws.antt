-- Laws about what a range has from a leaf on.
use Rattle.std.specs.Prelude.{◌≡◌, ◌↔◌, ℕ, ◌<◌, List, length, Contains}
use Rattle.s2ix_bag_pairs.specs.Collection.{Collection}
use Rattle.s2ix_bag_pairs.specs.declared.pair.Held.{Held}
use Rattle.s2ix_table_walk.specs.RangeList.{range_table}
use Rattle.s2ix_table_walk.specs.Table.{Range, range_at}
use Rattle.s2ix_c_calls.specs.Ranges.{begun_from}

-- a pair lies over the range at a place
abbrev pub LiesOver : List Range → ℕ → Held → Type 0
LiesOver ranges place h = Contains (range_at ranges place).contents h

-- a pair lies over the range at a place, and its cell begins at a leaf number or later
abbrev pub BeginsOver : List Range → ℕ → ℕ → Held → Type 0
BeginsOver ranges place from h = Contains (begun_from from (range_at ranges place).contents) h

-- the pairs over a range from the limit of an earlier one are those that don't lie over that one
abbrev pub NewFromALimit : Type 0
NewFromALimit =
    (held : Collection) (earlier place : ℕ) (h : Held) → earlier < place → place < length (range_table held)
    → BeginsOver (range_table held) place (range_at (range_table held) earlier).limit h
    ↔ (LiesOver (range_table held) place h × (LiesOver (range_table held) earlier h → ⊥))

-- each held pair is new over just one range
abbrev pub EachPairBeginsOnce : Type 0
EachPairBeginsOnce =
    (held : Collection) (h : Held) → Contains held h
    → (place : ℕ) × (place < length (range_table held)) × BeginsOver (range_table held) place (range_at (range_table held) place).start h
    × ((other : ℕ) → other < length (range_table held)
    → BeginsOver (range_table held) other (range_at (range_table held) other).start h → other ≡ place)
