use Rattle.std.proofs.Common.{◌≡◌, ℕ, ◌<◌, List, get_or, refl}
use Rattle.s2id_core.specs.declared.cell_id.CellId.{CellId}
use Rattle.s2id_core.specs.CellId.{path_of, raw_of}
use Rattle.s2id_core.specs.Path.{Path, IsPath}
use Rattle.s2id_core.proofs.Numbers.{path_of_cell}
use Rattle.s2id_cube.specs.Loops.{IsOverSide}
use Rattle.s2id_cube.specs.Square.{square_of}
use Rattle.s2id_cube.specs.Edge.{SharesSide, ShareEdge}
use Rattle.s2id_cube.specs.Neighbor.{neighbor_number}
use Rattle.s2id_cube.proofs.OverSides.{neighbor_number-is}
use Rattle.s2id_cube.proofs.Distinct.{all_distinct}
use Rattle.s2id_cube.proofs.Shared.{shares_from_square, one_neighbor}
use Rattle.s2id_cube.proofs.neighbors.edge_neighbors.Goals as goal

pathed : (c : CellId) → IsPath (path_of c)
pathed c = path_of_cell c.raw c.valid

others : (cell : CellId) (cs : List CellId) → ((m : ℕ) → m < 4 → SharesSide m (path_of cell) (path_of (get_or cs m cell))) → (q : Path)
    → IsPath q → ShareEdge (path_of cell) q → (m : ℕ) × (m < 4) × (path_of (get_or cs m cell) ≡ q)
others cell cs sides q path h =
    (h.side, h.is_side, one_neighbor h.side (path_of cell) (path_of (get_or cs h.side cell)) q h.is_side (pathed cell) (pathed (get_or cs h.side cell)) path (sides h.side h.is_side) h.shares)

numbered : (cell : CellId) (cs : List CellId) → ((m : ℕ) → m < 4 → SharesSide m (path_of cell) (path_of (get_or cs m cell))) → (m : ℕ)
    → m < 4 → raw_of (get_or cs m cell) ≡ neighbor_number m (path_of cell)
numbered cell cs sides m hm =
    neighbor_number-is m (path_of cell) (get_or cs m cell).raw hm (pathed cell) (get_or cs m cell).valid (sides m hm)

-- each of the four shares the side of its place
four_sides : (cell : CellId) (cs : List CellId) → ((m : ℕ) → m < 4 → IsOverSide (square_of (path_of cell)) m (path_of (get_or cs m cell)))
    → (m : ℕ) → m < 4 → SharesSide m (path_of cell) (path_of (get_or cs m cell))
four_sides cell cs over m hm =
    shares_from_square m (path_of cell) (path_of (get_or cs m cell)) (square_of (path_of cell)) hm (pathed cell) (pathed (get_or cs m cell)) refl (over m hm).level_is (over m hm).beside

pub returns-then-level-lt4-clause-sides : goal.returns-then-level-lt4-clause-sides
returns-then-level-lt4-clause-sides c = four_sides c.args.cell c.coarse_neighbors.result c.coarse_neighbors.ensures.over

pub returns-then-level-lt4-clause-only : goal.returns-then-level-lt4-clause-only
returns-then-level-lt4-clause-only c = others c.args.cell c.coarse_neighbors.result (four_sides c.args.cell c.coarse_neighbors.result c.coarse_neighbors.ensures.over)

pub returns-then-level-lt4-clause-numbers : goal.returns-then-level-lt4-clause-numbers
returns-then-level-lt4-clause-numbers c = numbered c.args.cell c.coarse_neighbors.result (four_sides c.args.cell c.coarse_neighbors.result c.coarse_neighbors.ensures.over)

pub returns-then-level-lt4-clause-distinct : goal.returns-then-level-lt4-clause-distinct
returns-then-level-lt4-clause-distinct c = all_distinct c.args.cell c.coarse_neighbors.result c.coarse_neighbors.ensures.long pathed (four_sides c.args.cell c.coarse_neighbors.result c.coarse_neighbors.ensures.over)

pub returns-else-level-lt4-clause-sides : goal.returns-else-level-lt4-clause-sides
returns-else-level-lt4-clause-sides c = four_sides c.args.cell c.fine_neighbors.result c.fine_neighbors.ensures.over

pub returns-else-level-lt4-clause-only : goal.returns-else-level-lt4-clause-only
returns-else-level-lt4-clause-only c = others c.args.cell c.fine_neighbors.result (four_sides c.args.cell c.fine_neighbors.result c.fine_neighbors.ensures.over)

pub returns-else-level-lt4-clause-numbers : goal.returns-else-level-lt4-clause-numbers
returns-else-level-lt4-clause-numbers c = numbered c.args.cell c.fine_neighbors.result (four_sides c.args.cell c.fine_neighbors.result c.fine_neighbors.ensures.over)

pub returns-else-level-lt4-clause-distinct : goal.returns-else-level-lt4-clause-distinct
returns-else-level-lt4-clause-distinct c = all_distinct c.args.cell c.fine_neighbors.result c.fine_neighbors.ensures.long pathed (four_sides c.args.cell c.fine_neighbors.result c.fine_neighbors.ensures.over)
