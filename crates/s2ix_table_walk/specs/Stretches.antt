-- Ranges read by where they begin.
use Rattle.std.specs.Prelude.{◌≡◌, ℕ, ◌+◌, ◌*◌, ◌<◌, ◌≤◌, List, length, slice_index_or}
use Rattle.s2ix_table_walk.specs.Table.{Range, range_at}

-- `count` ranges from `first` on begin at these starts, each in its turn, and each ends at the next start
pub record IsStretch (ranges : List Range) (first count : ℕ) (starts : List ℕ) : Type 0 where
  pub within : first + count ≤ length ranges
  pub room : 0 < count → count < length starts
  pub begins : (k : ℕ) → k < count → (range_at ranges (first + k)).start ≡ slice_index_or starts k 0
  pub ends : (k : ℕ) → k < count → (range_at ranges (first + k)).limit ≡ slice_index_or starts (k + 1) 0

-- every 16th of the first `count` starts, those at 15, 31 and so on, as many of these as there are in `sample`
pub record IsSample (count : ℕ) (starts sample : List ℕ) : Type 0 where
  pub within : (j : ℕ) → j < length sample → j * 16 + 15 < count
  pub each : (j : ℕ) → j < length sample → slice_index_or sample j 0 ≡ slice_index_or starts (j * 16 + 15) 0
