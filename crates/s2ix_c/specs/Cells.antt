-- What calls on cells tell.
use Rattle.std.specs.Prelude.{◌≡◌, ◌≢◌, ◌↔◌, ◌⊎◌, ℕ, ◌+◌, ◌*◌, ◌%◌, ◌^◌, ◌<◌, ◌≤◌, Option, Some, None, List, [], ◌∷◌, length, map, take, drop, Any, AllPairs, Contains as HasElement}
use Rattle.s2id_core.specs.declared.cell_id.CellId.{CellId}
use Rattle.s2id_core.specs.Cell.{IsCellNumber}
use Rattle.s2id_core.specs.CellId.{raw_of, path_of}
use Rattle.s2id_core.specs.Path.{Path, path_at, place_of}
use Rattle.s2id_cube.specs.declared.face_ij.FaceIj.{FaceIj}
use Rattle.s2id_cube.specs.Border.{IsOnBorder}
use Rattle.s2id_cube.specs.Neighbor.{neighbor_number}
use Rattle.s2id_cube.specs.Square.{square_of}
use Rattle.s2ix_edit_plan.specs.declared.errors.EditError.TheVariants.{TooFine}
use Rattle.s2ix_c.specs.declared.cells.Square.{Square}
use Rattle.s2ix_c_calls.specs.Lists.{IsPut}
use Rattle.s2ix_c_calls.specs.Status.{done, no_cell, out_of_memory, coarser, edit_status}

-- the number is that of the cell with this path
abbrev pub IsCellAt : Path → ℕ → Type 0
IsCellAt p n = IsCellNumber n × (path_at n ≡ p)

-- a number that a call tells: if what is asked for is there, P holds of the number; else it is 0
pub record Tells (there : Type 0) (P : ℕ → Type 0) (status number : ℕ) : Type 0 where
  pub answered : status ≡ done → there × P number
  pub none : status ≢ done → (status ≡ no_cell) × (number ≡ 0) × (there → ⊥)

-- the number of a cell that a call tells, if there is one; else 0
abbrev pub TellsCell : Option CellId → ℕ → ℕ → Type 0
TellsCell (Some cell) status number = (status ≡ done) × (number ≡ raw_of cell)
TellsCell None status number = (status ≡ no_cell) × (number ≡ 0)

-- the text of a cell, put to the front of a buffer, which stays as it was past the text; if the number is no cell's, all of it does
pub record PutsText (id : ℕ) (text : List ℕ) (status number : ℕ) (old new : List ℕ) : Type 0 where
  pub put : status ≡ done → IsCellNumber id × (number ≡ length text) × (take number new ≡ text) × (drop number new ≡ drop number old)
  pub none : status ≢ done → (status ≡ no_cell) × (number ≡ 0) × (new ≡ old) × (IsCellNumber id → ⊥)

-- the number is that of the cell that follows another of its level on the curve, where the first of face 0 follows the last of face 5
pub record IsNextTo (p : Path) (n : ℕ) : Type 0 where
  pub cell : IsCellNumber n
  pub level : length (path_at n).digits ≡ length p.digits
  pub place : place_of (path_at n) ≡ (place_of p + 1) % (6 * 4 ^ length p.digits)

-- the four numbers over the sides of a cell: down, right, up and left
abbrev pub numbers_over : Path → List ℕ
numbers_over p = neighbor_number 0 p ∷ neighbor_number 1 p ∷ neighbor_number 2 p ∷ neighbor_number 3 p ∷ []

-- the numbers over the sides of a cell, in a buffer of four; if the number asked about is no cell's, the buffer is as it was
pub record TellsSides (id status : ℕ) (old new : List ℕ) : Type 0 where
  pub answered : status ≡ done → IsCellNumber id × (new ≡ numbers_over (path_at id))
  pub none : status ≢ done → (status ≡ no_cell) × (new ≡ old) × (IsCellNumber id → ⊥)

-- a square as C sees it
abbrev pub square_row : FaceIj → Square
square_row s = record { i = s.i; j = s.j; face = s.face; level = s.level; orientation = s.orientation }

-- the square of a cell; if the number asked about is no cell's, what was there is left
pub record TellsSquare (id status : ℕ) (old new : Square) : Type 0 where
  pub answered : status ≡ done → IsCellNumber id × (new ≡ square_row (square_of (path_at id)))
  pub none : status ≢ done → (status ≡ no_cell) × (new ≡ old) × (IsCellNumber id → ⊥)

-- a face, and a column and a row of the grid of a level there
pub record IsInGrid (face i j level : ℕ) : Type 0 where
  pub face_below : face < 6
  pub level_at_most : level ≤ 30
  pub column_below : i < 2 ^ level
  pub row_below : j < 2 ^ level

-- the number is that of the cell with this square
pub record HasSquare (face i j level n : ℕ) : Type 0 where
  pub cell : IsCellNumber n
  pub face_is : (square_of (path_at n)).face ≡ face
  pub column_is : (square_of (path_at n)).i ≡ i
  pub row_is : (square_of (path_at n)).j ≡ j
  pub level_is : (square_of (path_at n)).level ≡ level

-- the cells of a level round a cell, at most 1,024: each once, in rising order
pub record IsBorder (p : Path) (level : ℕ) (cells : List CellId) : Type 0 where
  pub rising : AllPairs (λ x y. raw_of x < raw_of y) cells
  pub each : (x : CellId) → HasElement cells x ↔ IsOnBorder p level (path_of x)
  pub complete : (q : Path) → IsOnBorder p level q → Any (λ x. path_of x ≡ q) cells
  pub at_most : length cells ≤ 1024

-- why there is no border of a level
abbrev pub IsCoarser : ℕ → ℕ → Type 0
IsCoarser id level = IsCellNumber id × (level < length (path_at id).digits)

abbrev pub IsTooFine : ℕ → ℕ → Type 0
IsTooFine id level = IsCellNumber id × (length (path_at id).digits ≤ level) × ((30 < level) ⊎ (length (path_at id).digits + 8 < level))

-- a number is a cell's, and has a border of the level
pub record HasBorder (id level : ℕ) : Type 0 where
  pub cell : IsCellNumber id
  pub not_coarser : IsCoarser id level → ⊥
  pub not_too_fine : IsTooFine id level → ⊥

-- the status is that of the border's refusal, or of want of memory
pub record IsBorderRefusal (id level status : ℕ) : Type 0 where
  pub not_a_cell : (status ≡ no_cell) ↔ (IsCellNumber id → ⊥)
  pub is_coarser : (status ≡ coarser) ↔ IsCoarser id level
  pub is_too_fine : (status ≡ edit_status TooFine) ↔ IsTooFine id level
  pub one_of_four : (status ≡ no_cell) ⊎ (status ≡ coarser) ⊎ (status ≡ edit_status TooFine) ⊎ (status ≡ out_of_memory)

-- the border of a level in a buffer, or why there is none
abbrev pub ListsBorder : ℕ → ℕ → ℕ → ℕ → List ℕ → List ℕ → Type 0
ListsBorder id level status number old new =
    (HasBorder id level × (cells : List CellId) × IsBorder (path_at id) level cells × IsPut (map raw_of cells) status number old new)
    ⊎ (IsBorderRefusal id level status × (number ≡ 0) × (new ≡ old))
