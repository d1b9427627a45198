-- Ranges of leaves that a call finds or reads.
use Rattle.std.specs.Prelude.{◌≡◌, ◌≢◌, ◌↔◌, ℕ, ◌<◌, ◌≤◌, ◌==◌, nat_le, nat_lt, if◌then◌else◌, Bool, IsTrue, Option, Some, None, Result, Ok, Err, List, [], length, map, take, drop}
use Rattle.std.specs.List.{filter}
use Rattle.s2id_core.specs.declared.cell_id.CellId.{CellId}
use Rattle.s2id_core.specs.CellId.{raw_of, first_of}
use Rattle.s2ix_bag_pairs.specs.Collection.{Collection}
use Rattle.s2ix_table_walk.specs.RangeList.{range_table}
use Rattle.s2ix_table_walk.specs.Table.{Range, range_at}
use Rattle.s2ix_edit_plan.specs.State.{State}
use Rattle.s2ix_c_calls.specs.declared.rows.Row.{Row}
use Rattle.s2ix_c_calls.specs.declared.ranges.LeafRange.{LeafRange}
use Rattle.s2ix_c_calls.specs.Lists.{IsPut, row_of}
use Rattle.s2ix_c_calls.specs.Status.{done, no_cell, no_range}

-- the range at a place, which has a leaf
pub record IsRangeOf (leaf : CellId) (ranges : List Range) (place start limit : ℕ) : Type 0 where
  pub within : place < length ranges
  pub starts : start ≡ (range_at ranges place).start
  pub ends : limit ≡ (range_at ranges place).limit
  pub from : start ≤ raw_of leaf
  pub to : raw_of leaf < limit

-- the range that has a leaf, or no range, if the number is no leaf's
abbrev pub FindsRange : Option CellId → State → ℕ → ℕ → ℕ → ℕ → Type 0
FindsRange (Some leaf) s status place start limit = (status ≡ done) × IsRangeOf leaf (range_table s.bag.held) place start limit
FindsRange None s status place start limit = (status ≡ no_cell) × (place ≡ 0) × (start ≡ 0) × (limit ≡ 0)

-- no pair lies over the range at a place
abbrev pub IsEmptyAt : List Range → ℕ → Type 0
IsEmptyAt ranges place = (range_at ranges place).contents ≡ []

-- the bounds of the range at a place, and whether it is empty; or there is no range at the place
pub record ReadsRange (place : ℕ) (ranges : List Range) (status start limit : ℕ) (is_empty : Bool) : Type 0 where
  pub bounds : place < length ranges
      → (status ≡ done) × (start ≡ (range_at ranges place).start) × (limit ≡ (range_at ranges place).limit)
  pub contents : place < length ranges → IsTrue is_empty ↔ IsEmptyAt ranges place
  pub refused : length ranges ≤ place → (status ≡ no_range) × (start ≡ 0) × (limit ≡ 0) × IsTrue is_empty

-- a range as C sees it
abbrev pub leaf_range_of : Range → LeafRange
leaf_range_of r = record { start = r.start; limit = r.limit; is_empty = length r.contents == 0 }

-- the ranges from a place on, as many as a buffer has room for, are put to its front
abbrev pub PutsRanges : ℕ → List Range → ℕ → ℕ → List LeafRange → List LeafRange → Type 0
PutsRanges from ranges status number old new =
    (status ≡ done) × IsPut (map leaf_range_of (take (length old) (drop from ranges))) status number old new

-- the pairs whose cells begin at a leaf number or later
abbrev pub begun_from : ℕ → Collection → Collection
begun_from from hs = filter (λ h. nat_le from (first_of h.pair.cell)) hs

-- of the pairs over the range at a place, those whose cells begin at a leaf number or later
abbrev pub rows_of_range : ℕ → ℕ → List Range → Result (List Row) ℕ
rows_of_range place from ranges =
    if nat_lt place (length ranges) then Ok (map row_of (begun_from from (range_at ranges place).contents)) else Err no_range

-- the place of a range that a call tells, if there is one; else 0
abbrev pub GivesPlace : Option ℕ → ℕ → ℕ → Type 0
GivesPlace (Some place) status answered = (status ≡ done) × (answered ≡ place)
GivesPlace None status answered = (status ≡ no_range) × (answered ≡ 0)

-- the first range from a place on that has a pair over it; or there is none
pub record FindsFull (from : ℕ) (ranges : List Range) (status place : ℕ) : Type 0 where
  pub found : status ≡ done → (from ≤ place) × (place < length ranges) × ((range_at ranges place).contents ≢ [])
  pub first : status ≡ done → (k : ℕ) → from ≤ k → k < place → IsEmptyAt ranges k
  pub refused : status ≢ done → (status ≡ no_range) × (place ≡ 0)
  pub none : status ≢ done → (k : ℕ) → from ≤ k → k < length ranges → IsEmptyAt ranges k

-- the last range before a place that has a pair over it; or there is none
pub record FindsFullBefore (before : ℕ) (ranges : List Range) (status place : ℕ) : Type 0 where
  pub found : status ≡ done → (place < before) × (place < length ranges) × ((range_at ranges place).contents ≢ [])
  pub last : status ≡ done → (k : ℕ) → place < k → k < before → k < length ranges → IsEmptyAt ranges k
  pub refused : status ≢ done → (status ≡ no_range) × (place ≡ 0)
  pub none : status ≢ done → (k : ℕ) → k < before → k < length ranges → IsEmptyAt ranges k
