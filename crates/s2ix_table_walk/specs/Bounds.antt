-- Where contents may change: the leaf numbers at which held cells begin and end.
use Rattle.std.specs.Prelude.{◌≡◌, ◌⊎◌, ℕ, ◌%◌, ◌<◌, ◌≤◌, Contains}
use Rattle.s2id_core.specs.CellId.{first_of, end_of}
use Rattle.s2ix_bag_pairs.specs.declared.pair.Held.{Held}
use Rattle.s2ix_bag_pairs.specs.Collection.{Collection}
use Rattle.s2ix_table_walk.specs.Table.{leaf_end}

-- a cell that is held begins or ends at a leaf number
abbrev pub IsBound : Collection → ℕ → Type 0
IsBound held b = (h : Held) × Contains held h × ((first_of h.pair.cell ≡ b) ⊎ (end_of h.pair.cell ≡ b))

-- the least bound above a leaf, or the end of the leaves
pub record IsNextBound (held : Collection) (at limit : ℕ) : Type 0 where
  pub above : at < limit
  pub within : limit ≤ leaf_end
  pub odd : limit % 2 ≡ 1
  pub no_first : (h : Held) → Contains held h → at < first_of h.pair.cell → limit ≤ first_of h.pair.cell
  pub no_end : (h : Held) → Contains held h → at < end_of h.pair.cell → limit ≤ end_of h.pair.cell
  pub is_bound : limit < leaf_end → IsBound held limit
