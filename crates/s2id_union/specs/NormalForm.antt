-- Lists of cells as functions of the numbers that they are to cover: of all the cells there are, in rising order, the
-- largest all of whose numbers pass a test. They are there to be spoken of, and are never computed.
use Rattle.std.specs.Prelude.{ℕ, ◌-◌, ◌*◌, ◌^◌, ◌==◌, ◌&&◌, ◌||◌, not, nat_lt, nat_le, Bool, List, filter}
use Rattle.std.specs.List.{list_all, list_any, filter_map, range_with_len}
use Rattle.s2id_core.specs.declared.cell_id.CellId.{CellId}
use Rattle.s2id_core.specs.CellId.{raw_of, path_of, level_of, first_of, end_of}
use Rattle.s2id_core.specs.Path.{number_of, ancestor}
use Rattle.s2id_core.specs.Span.{first_at, end_at}
use Rattle.s2id_core.specs.Spelled.{cell_numbered}

-- whether each number of a cell's span passes a test
unfoldable pub lies_whole : (ℕ → Bool) → ℕ → Bool
lies_whole passes n = list_all passes (range_with_len (first_at n) (end_at n - first_at n))

-- the number of the cell one level up
unfoldable pub parent_of : CellId → ℕ
parent_of cell = number_of (ancestor (level_of cell - 1) (path_of cell))

-- whether each number of a cell's span passes, and it is a face or has a parent of which that is not so
unfoldable pub is_largest : (ℕ → Bool) → CellId → Bool
is_largest passes cell = lies_whole passes (raw_of cell) && (level_of cell == 0 || not (lies_whole passes (parent_of cell)))

-- the cells with numbers below a limit, in rising order
unfoldable pub cells_below : ℕ → List CellId
cells_below limit = filter_map cell_numbered (range_with_len 0 limit)

-- of all cells, the largest all of whose numbers pass a test
unfoldable pub cells_where : (ℕ → Bool) → List CellId
cells_where passes = filter (is_largest passes) (cells_below (6 * 2 ^ 61))

-- whether a number lies in the span of one of the cells
unfoldable pub is_covered : List CellId → ℕ → Bool
is_covered cells q = list_any (λ cell. nat_le (first_of cell) q && nat_lt q (end_of cell)) cells

-- the one normal list with the region of a list of cells
unfoldable pub normal_form : List CellId → List CellId
normal_form cells = cells_where (is_covered cells)
