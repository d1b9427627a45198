-- The range table of a collection.
use Rattle.std.specs.Prelude.{◌≡◌, ◌≢◌, ℕ, ◌+◌, ◌%◌, ◌<◌, ◌≤◌, List, [], length, slice_index_or}
pub use Rattle.s2id_core.specs.Span.{leaf_end}
use Rattle.s2ix_bag_pairs.specs.Collection.{Collection}
use Rattle.s2ix_table_walk.specs.Contents.{contents_at}

-- a span of leaves, from the number `start` up to and without `limit`, with the contents that its leaves share
pub record Range : Type 0 where
  pub start : ℕ
  pub limit : ℕ
  pub contents : Collection

-- the range at a place
abbrev pub range_at : List Range → ℕ → Range
range_at ranges k = slice_index_or ranges k (record { start = 0; limit = 0; contents = [] })

-- the maximal spans of leaves with equal contents, one after the other, over the leaves from one number up to another
pub record IsTableOver (held : Collection) (from to : ℕ) (ranges : List Range) : Type 0 where
  pub some : 0 < length ranges
  pub first : (range_at ranges 0).start ≡ from
  pub last : (k : ℕ) → k + 1 ≡ length ranges → (range_at ranges k).limit ≡ to
  pub next : (j k : ℕ) → j + 1 ≡ k → k < length ranges → (range_at ranges j).limit ≡ (range_at ranges k).start
  pub odd : (k : ℕ) → k < length ranges → (range_at ranges k).start % 2 ≡ 1
  pub rises : (k : ℕ) → k < length ranges → (range_at ranges k).start < (range_at ranges k).limit
  pub shared : (k q : ℕ) → k < length ranges → q % 2 ≡ 1 → (range_at ranges k).start ≤ q → q < (range_at ranges k).limit
      → contents_at q held ≡ (range_at ranges k).contents
  pub maximal : (j k : ℕ) → j + 1 ≡ k → k < length ranges → (range_at ranges j).contents ≢ (range_at ranges k).contents

-- the range table: the maximal spans of leaves with equal contents, from the first leaf of face 0 to the last of face 5
abbrev pub IsRangeTable : Collection → List Range → Type 0
IsRangeTable held ranges = IsTableOver held 1 leaf_end ranges

-- ---- the range that has a leaf

pub record IsFound (ranges : List Range) (k q : ℕ) : Type 0 where
  pub within : k < length ranges
  pub start : (range_at ranges k).start ≤ q
  pub limit : q < (range_at ranges k).limit
