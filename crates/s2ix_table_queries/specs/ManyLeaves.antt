-- What lies over each of many leaves.
use Rattle.std.specs.Prelude.{◌≡◌, ◌≢◌, ◌⊎◌, ℕ, ◌+◌, ◌%◌, ◌<◌, ◌≤◌, Option, None, List, length, flat_map, map, slice_get, slice_index_or, take}
use Rattle.s2id_core.specs.declared.cell_id.CellId.{CellId}
use Rattle.s2ix_bag_pairs.specs.Collection.{Collection}
use Rattle.s2ix_bag_pairs.specs.declared.pair.Held.{Held}
use Rattle.s2ix_table_walk.specs.Contents.{contents_at}
use Rattle.s2ix_table_queries.specs.Leaf.{leaf_numbered}

-- the leaf at a place of a list of numbers, if it is a leaf's
abbrev pub leaf_in : List ℕ → ℕ → Option CellId
leaf_in leaves k = leaf_numbered (slice_index_or leaves k 0)

-- the pairs over leaves, those of the first leaf, then those of the next, and so on
abbrev pub over_each : List ℕ → Collection → Collection
over_each leaves held = flat_map (λ leaf. contents_at leaf held) leaves

-- the pairs over the first leaves of a list, so many of them
abbrev pub over_first : ℕ → List ℕ → Collection → Collection
over_first n leaves held = over_each (take n leaves) held

-- the first leaves of a list are answered: what lies over them is at the front of a buffer, and beside each leaf is how many pairs lie over
-- it and those before it
pub record AreAnswered {R : Type 0} (of : Held → R) (held : Collection) (leaves : List ℕ) (answered : ℕ) (ends : List ℕ) (out : List R) : Type 0 where
  pub within : answered ≤ length leaves
  pub are_leaves : (k : ℕ) → k < answered → leaf_in leaves k ≢ None
  pub listed : answered ≤ length ends
  pub each_end : (k : ℕ) → k < answered → slice_index_or ends k 0 ≡ length (over_first (k + 1) leaves held)
  pub put : take (length (over_first answered leaves held)) out ≡ map of (over_first answered leaves held)

-- items are what is kept of the pairs over each leaf of a span
pub record AreOver {R : Type 0} (of : Held → R) (held : Collection) (start limit : ℕ) (items : List R) : Type 0 where
  pub each : (leaf : ℕ) → leaf % 2 ≡ 1 → start ≤ leaf → leaf < limit → items ≡ map of (contents_at leaf held)

-- the next leaf is none
pub record IsNoLeaf (leaves : List ℕ) (answered : ℕ) : Type 0 where
  pub within : answered < length leaves
  pub none : leaf_in leaves answered ≡ None

-- there is no room for the next leaf
pub record LacksRoom {R : Type 0} (held : Collection) (leaves : List ℕ) (answered : ℕ) (ends : List ℕ) (out : List R) : Type 0 where
  pub within : answered < length leaves
  pub is_leaf : leaf_in leaves answered ≢ None
  pub short : (length ends ≤ answered) ⊎ (length out < length (over_first (answered + 1) leaves held))

-- leaves are those of the numbers from a place of a list on, so many of them
pub record IsBatchAt (numbers : List ℕ) (from : ℕ) (leaves : List CellId) (count : ℕ) : Type 0 where
  pub within : from + count ≤ length numbers
  pub listed : count ≤ length leaves
  pub each : (k : ℕ) → k < count → slice_get leaves k ≡ leaf_in numbers (from + k)
