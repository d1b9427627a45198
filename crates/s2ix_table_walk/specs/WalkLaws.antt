-- What the definition of met ranges says, in other words: it is proved by the function of `laws` of its name.
use Rattle.std.specs.Prelude.{◌≡◌, ◌↔◌, ℕ, ◌%◌, ◌<◌, ◌≤◌, true, List, Contains}
use Rattle.s2id_core.specs.declared.cell_id.CellId.{CellId}
use Rattle.s2id_union.specs.Covers.{Covers}
use Rattle.s2ix_bag_pairs.specs.Collection.{Collection}
use Rattle.s2ix_table_walk.specs.Table.{Range, IsRangeTable}
use Rattle.s2ix_table_walk.specs.Costs.{is_met}

-- a leaf's number is in a range and in a target
pub record SharesLeaf (target : List CellId) (range : Range) : Type 0 where
  pub leaf : ℕ
  pub odd : leaf % 2 ≡ 1
  pub from : range.start ≤ leaf
  pub to : leaf < range.limit
  pub covered : Covers target leaf

abbrev pub MetRangesShareALeaf : Type 0
MetRangesShareALeaf =
    (target : List CellId) (held : Collection) (ranges : List Range) (range : Range) →
    IsRangeTable held ranges → Contains ranges range → (is_met target range ≡ true) ↔ SharesLeaf target range
