-- The leaf of a number.
use Rattle.std.specs.Prelude.{ℕ, ◌==◌, if◌then◌else◌, Option, Some, None}
use Rattle.s2id_core.specs.declared.cell_id.CellId.{CellId}
use Rattle.s2id_core.specs.CellId.{level_of}
use Rattle.s2id_core.specs.Spelled.{cell_numbered}

-- the leaf with this number, if it is a leaf's
abbrev pub leaf_if : Option CellId → Option CellId
leaf_if (Some cell) = if level_of cell == 30 then Some cell else None
leaf_if None = None

abbrev pub leaf_numbered : ℕ → Option CellId
leaf_numbered n = leaf_if (cell_numbered n)
