-- What a `CellId` stands for.
use Rattle.std.specs.Prelude.{ℕ, length}
use Rattle.s2id_core.specs.declared.cell_id.CellId.{CellId}
use Rattle.s2id_core.specs.Path.{Path, path_at}
use Rattle.s2id_core.specs.Span.{first_at, end_at}

-- the cell's number, which `raw()` gives
abbrev pub raw_of : CellId → ℕ
raw_of c = c.raw

-- the cell's path
abbrev pub path_of : CellId → Path
path_of c = path_at (raw_of c)

-- the face, 0 to 5
abbrev pub face_of : CellId → ℕ
face_of c = (path_of c).face

-- the level, 0 for a whole face to 30 for a leaf
abbrev pub level_of : CellId → ℕ
level_of c = length (path_of c).digits

-- the number of the cell's first leaf, and the leaf number after that of its last
abbrev pub first_of : CellId → ℕ
first_of c = first_at (raw_of c)

abbrev pub end_of : CellId → ℕ
end_of c = end_at (raw_of c)
