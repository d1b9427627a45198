-- The cells round a cell.
use Rattle.std.specs.Prelude.{◌≡◌, ℕ, length}
use Rattle.s2id_core.specs.Path.{Path, IsPath}
use Rattle.s2id_core.specs.Leaves.{Contains, Overlap}
use Rattle.s2id_cube.specs.Edge.{ShareEdge}

-- a cell of a level, outside the cell p, that shares an edge with a cell of that level inside p
pub record IsOnBorder (p : Path) (level : ℕ) (q : Path) : Type 0 where
  pub path : IsPath q
  pub level_is : length q.digits ≡ level
  pub outside : Overlap p q → ⊥
  pub inner : Path
  pub inner_path : IsPath inner
  pub inside : Contains p inner
  pub shares : ShareEdge inner q
