-- Which cells a label grows by. The tests speak of all the cells there are, and are never computed.
use Rattle.std.specs.Prelude.{◌≡◌, ℕ, ◌+◌, ◌*◌, ◌^◌, ◌==◌, ◌&&◌, ◌||◌, not, nat_lt, Bool, List, filter}
use Rattle.std.specs.List.{list_any}
use Rattle.s2id_core.specs.declared.cell_id.CellId.{CellId}
use Rattle.s2id_core.specs.CellId.{path_of, level_of, first_of, end_of}
use Rattle.s2id_core.specs.Leaves.{Overlap}
use Rattle.s2id_cube.specs.Edge.{ShareEdge}
use Rattle.s2id_cube.specs.Neighbor.{share_edge}
use Rattle.s2id_union.specs.NormalForm.{cells_below}
use Rattle.s2id_union.specs.Region.{Meets}
use Rattle.s2ix_bag_pairs.specs.declared.label.Label.{Label}
use Rattle.s2ix_bag_pairs.specs.Collection.{Collection}
use Rattle.s2ix_edit_plan.specs.Region.{cells_of}

-- whether the level is above 30, or more than 8 above the level of one of the cells
abbrev pub is_too_fine : ℕ → List CellId → Bool
is_too_fine level cells = nat_lt 30 level || list_any (λ cell. nat_lt (level_of cell + 8) level) cells

-- whether a cell shares a leaf with one of the cells: the span of each begins before the other's ends
unfoldable pub overlaps_one : List CellId → CellId → Bool
overlaps_one cells x = list_any (λ cell. nat_lt (first_of cell) (end_of x) && nat_lt (first_of x) (end_of cell)) cells

-- all cells, in rising order
unfoldable pub all_cells : List CellId
all_cells = cells_below (6 * 2 ^ 61)

-- whether a cell is of the level, overlaps one of the cells, and shares an edge with another
unfoldable pub leads_to : ℕ → List CellId → CellId → CellId → Bool
leads_to level cells x near =
    level_of near == level && (overlaps_one cells near && share_edge (path_of near) (path_of x))

-- whether a cell is of the level, overlaps none of the cells, and shares an edge with a cell of the level that overlaps
-- one of them
unfoldable pub is_grown : ℕ → List CellId → CellId → Bool
is_grown level cells x = level_of x == level && (not (overlaps_one cells x) && list_any (leads_to level cells x) all_cells)

-- the cells that a label grows by at a level, in rising order
unfoldable pub grown_cells : Label → ℕ → Collection → List CellId
grown_cells label level hs = filter (is_grown level (cells_of label hs)) all_cells

-- ---- the same as propositions

-- a cell is of the level, overlaps none of the cells, and shares an edge with a cell of the level that overlaps one of
-- them
pub record IsGrown (level : ℕ) (cells : List CellId) (x : CellId) : Type 0 where
  pub level_is : level_of x ≡ level
  pub outside : Meets cells (path_of x) → ⊥
  pub near : CellId
  pub near_level : level_of near ≡ level
  pub overlaps : Meets cells (path_of near)
  pub shares : ShareEdge (path_of near) (path_of x)

-- the same for one cell alone
pub record IsNextTo (level : ℕ) (cell x : CellId) : Type 0 where
  pub level_is : level_of x ≡ level
  pub outside : Overlap (path_of cell) (path_of x) → ⊥
  pub near : CellId
  pub near_level : level_of near ≡ level
  pub overlaps : Overlap (path_of cell) (path_of near)
  pub shares : ShareEdge (path_of near) (path_of x)
