-- The ranges that have a leaf and those after it.
use Rattle.std.specs.Prelude.{◌≡◌, ℕ, ◌+◌, ◌<◌, ◌≤◌, List, length}
use Rattle.s2ix_table_walk.specs.Table.{Range, range_at}

-- the range with a leaf is one of `size` from `first` on, and so is that of each later leaf before the number `until`
pub record HaveLeaves (ranges : List Range) (leaf until first size : ℕ) : Type 0 where
  pub some : 1 ≤ size
  pub within : first + size ≤ length ranges
  pub start : (range_at ranges first).start ≤ leaf
  pub later : leaf < until
  pub limit : first + size < length ranges → until ≤ (range_at ranges (first + size)).start
