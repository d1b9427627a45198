-- Cells as the leaves that they have.
use Rattle.std.specs.Prelude.{◌≡◌, ℕ, ◌≤◌, length}
use Rattle.s2id_core.specs.Path.{Path, IsPath, ancestor}

-- a cell of level 30
pub record IsLeafPath (leaf : Path) : Type 0 where
  pub path : IsPath leaf
  pub deep : length leaf.digits ≡ 30

-- the outer cell's face and digits begin the inner cell's
abbrev pub IsWithin : Path → Path → Type 0
IsWithin inner outer = ancestor (length outer.digits) inner ≡ outer

-- a path of 30 digits that begins with the cell's face and digits
pub record IsLeafOf (leaf cell : Path) : Type 0 where
  pub deep : IsLeafPath leaf
  pub within : IsWithin leaf cell

-- each leaf of the inner cell is one of the outer cell's
abbrev pub HasLeavesWithin : Path → Path → Type 0
HasLeavesWithin inner outer = (leaf : Path) → IsLeafOf leaf inner → IsLeafOf leaf outer

-- a cell contains another: it has all its leaves
abbrev pub Contains : Path → Path → Type 0
Contains outer inner = HasLeavesWithin inner outer

-- two cells share a leaf
abbrev pub Overlap : Path → Path → Type 0
Overlap p q = (leaf : Path) × IsLeafOf leaf p × IsLeafOf leaf q

-- the level of the smallest cell that contains both
pub record IsCommonLevel (p q : Path) (level : ℕ) : Type 0 where
  pub of_first : level ≤ length p.digits
  pub of_second : level ≤ length q.digits
  pub shared : ancestor level p ≡ ancestor level q
  pub greatest : (k : ℕ) → k ≤ length p.digits → k ≤ length q.digits → ancestor k p ≡ ancestor k q → k ≤ level
