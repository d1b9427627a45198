-- The lines that answer what asks for no list: the line is refused or accepted, and what a cell is on the curve and the cube.
use Rattle.std.specs.Prelude.{ℕ, codes, decimal, List, [], ◌∷◌}
use Rattle.std.specs.List.{concat}
use Rattle.s2id_core.specs.declared.cell_id.CellId.{CellId}
use Rattle.s2id_core.specs.CellId.{path_of}
use Rattle.s2id_core.specs.Path.{readable_path}
use Rattle.s2id_core.specs.Token.{canonical_token}
use Rattle.s2id_cube.specs.declared.face_ij.FaceIj.{FaceIj}
use Rattle.s2id_cube.specs.Neighbor.{neighbor_number}

-- what a refused line prints
abbrev pub no_line : List ℕ → List ℕ
no_line name = concat (codes "no " ∷ name ∷ codes "\n" ∷ [])

-- what an accepted line prints, if it changes the counts of n pairs
abbrev pub ok_line : ℕ → List ℕ
ok_line n = concat (codes "ok " ∷ decimal n ∷ codes "\n" ∷ [])

-- the line of a cell's path
abbrev pub path_line : CellId → List ℕ
path_line cell = concat (readable_path (path_of cell) ∷ codes "\n" ∷ [])

-- the token of the cell over a side
abbrev pub token_over : ℕ → CellId → List ℕ
token_over side cell = canonical_token (neighbor_number side (path_of cell))

-- the line of the cells over a cell's sides: down, right, up and left
abbrev pub neighbors_line : CellId → List ℕ
neighbors_line cell =
    concat
    (token_over 0 cell ∷ codes " " ∷ token_over 1 cell ∷ codes " " ∷ token_over 2 cell ∷ codes " " ∷ token_over 3 cell ∷ codes "\n" ∷ [])

-- the line of a square: FACE I J LEVEL ORIENTATION
abbrev pub square_line : FaceIj → List ℕ
square_line s =
    concat
    (decimal s.face ∷ codes " " ∷ decimal s.i ∷ codes " " ∷ decimal s.j ∷ codes " " ∷ decimal s.level ∷ codes " "
    ∷ decimal s.orientation ∷ codes "\n" ∷ [])
