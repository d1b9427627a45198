-- What a collection holds over a leaf.
use Rattle.std.specs.Prelude.{◌≡◌, ◌↔◌, ◌⊎◌, ℕ, ◌+◌, ◌-◌, ◌*◌, ◌<◌, nat_le, nat_lt, ◌&&◌, Bool, AllPairs, Contains}
use Rattle.s2id_core.specs.CellId.{path_of, level_of, first_of, end_of}
use Rattle.s2id_core.specs.Leaves.{IsLeafOf}
use Rattle.s2id_core.specs.Path.{Path}
use Rattle.s2ix_bag_pairs.specs.Collection.{Collection}
use Rattle.s2ix_bag_pairs.specs.Label.{value_of}
use Rattle.s2ix_bag_pairs.specs.declared.pair.Held.{Held}
use Rattle.s2ix_table_walk.specs.InOrder.{choice}

-- a pair comes before another over one leaf: by falling level, then by rising label
abbrev pub IsDeeper : Held → Held → Type 0
IsDeeper a b =
    (level_of b.pair.cell < level_of a.pair.cell)
    ⊎ ((level_of a.pair.cell ≡ level_of b.pair.cell) × (value_of a.pair.label < value_of b.pair.label))

-- the contents of a leaf: the held pairs whose cell has it, by falling level, then by rising label
pub record IsContents (leaf : Path) (held contents : Collection) : Type 0 where
  pub rises : AllPairs IsDeeper contents
  pub each : (h : Held) → Contains contents h ↔ (Contains held h × IsLeafOf leaf (path_of h.pair.cell))

-- ---- the same as a function of the leaf's number

-- whether the cell of a pair has the leaf with this number
abbrev pub covers : ℕ → Held → Bool
covers q h = nat_le (first_of h.pair.cell) q && nat_lt q (end_of h.pair.cell)

-- a number that rises as the level falls, and at one level with the label; it is below 2 ^ 36
unfoldable pub depth_key : Held → ℕ
depth_key h = (30 - level_of h.pair.cell) * 2147483648 + value_of h.pair.label

unfoldable pub contents_at : ℕ → Collection → Collection
contents_at q held = choice (covers q) depth_key held
