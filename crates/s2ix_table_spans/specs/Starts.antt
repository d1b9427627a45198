-- Ranges read by their starts.
use Rattle.std.specs.Prelude.{◌≡◌, ℕ, ◌+◌, ◌-◌, ◌<◌, ◌≤◌, List, [], ◌∷◌, length, slice_index_or}
use Rattle.s2ix_bag_pairs.specs.Collection.{Collection}
use Rattle.s2ix_table_walk.specs.Contents.{contents_at}
use Rattle.s2ix_table_walk.specs.Table.{Range}

-- the ranges with these starts, each up to the next start and the last one up to `to`
abbrev pub ranges_from : Collection → List ℕ → ℕ → List Range
ranges_from held [] to = []
ranges_from held (start ∷ starts) to =
    record { start = start; limit = slice_index_or starts 0 to; contents = contents_at start held } ∷ ranges_from held starts to

-- a start by a leaf, whose next one, if there is one, is after the leaf
pub record IsLastStart (starts : List ℕ) (leaf k : ℕ) : Type 0 where
  pub within : k < length starts
  pub by : slice_index_or starts k 0 ≤ leaf
  pub next : k + 1 < length starts → leaf < slice_index_or starts (k + 1) 0

-- that start is one of `size` starts from `first` on
pub record IsAmong (starts : List ℕ) (leaf first size : ℕ) : Type 0 where
  pub some : 0 < size
  pub within : first + size ≤ length starts
  pub by : slice_index_or starts first 0 ≤ leaf
  pub after : first + size < length starts → leaf < slice_index_or starts (first + size) 0

-- of the starts at the places from `from` on up to `end`, those up to this place are by the leaf, and the next one is after it
pub record IsFirstAfter (starts : List ℕ) (leaf from end k : ℕ) : Type 0 where
  pub from_on : from ≤ k
  pub to_end : k ≤ end
  pub by : from < k → slice_index_or starts (k - 1) 0 ≤ leaf
  pub after : k < end → leaf < slice_index_or starts k 0

-- what stands at the ends of lists of starts and of places beside them: the first place and the last one, and the last start
pub record AreEnds (starts firsts : List ℕ) (first_place last_place last_start : ℕ) : Type 0 where
  pub first : slice_index_or firsts 0 0 ≡ first_place
  pub last : slice_index_or firsts (length starts - 1) 0 ≡ last_place
  pub start : slice_index_or starts (length starts - 1) 0 ≡ last_start
