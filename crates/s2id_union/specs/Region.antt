-- Lists of cells as sets of leaves, and their one normal form.
use Rattle.std.specs.Prelude.{◌≡◌, ◌↔◌, ℕ, ◌<◌, List, Any, AllPairs, Contains as HasElement}
use Rattle.s2id_core.specs.declared.cell_id.CellId.{CellId}
use Rattle.s2id_core.specs.CellId.{raw_of, path_of}
use Rattle.s2id_core.specs.Path.{Path, number_of, child}
use Rattle.s2id_core.specs.Leaves.{IsLeafPath, IsLeafOf, IsWithin}

-- the region of a list of cells: the leaves that one of its cells has
abbrev pub InRegion : List CellId → Path → Type 0
InRegion cells leaf = Any (λ cell. IsLeafOf leaf (path_of cell)) cells

-- the list rises strictly, no cell lies within another, and no four cells are all the children of one cell
pub record IsNormal (cells : List CellId) : Type 0 where
  pub rises : AllPairs (λ a b. raw_of a < raw_of b) cells
  pub apart : (a b : CellId) → HasElement cells a → HasElement cells b → IsWithin (path_of a) (path_of b) → a ≡ b
  pub no_four : (p : Path) → ((d : ℕ) → d < 4 → Any (λ cell. path_of cell ≡ child d p) cells) → ⊥

-- two lists have the same leaves
abbrev pub HaveSameRegion : List CellId → List CellId → Type 0
HaveSameRegion xs ys = (leaf : Path) → IsLeafPath leaf → InRegion xs leaf ↔ InRegion ys leaf

-- each leaf of the cell is in the region
abbrev pub HasAllOf : List CellId → Path → Type 0
HasAllOf cells p = (leaf : Path) → IsLeafOf leaf p → InRegion cells leaf

-- some leaf of the cell is in the region
abbrev pub Meets : List CellId → Path → Type 0
Meets cells p = (leaf : Path) × IsLeafOf leaf p × InRegion cells leaf

-- the leaves of the region, each once, in the order of the curve
pub record IsLeafList (cells : List CellId) (leaves : List Path) : Type 0 where
  pub rises : AllPairs (λ p q. number_of p < number_of q) leaves
  pub leaf : (p : Path) → HasElement leaves p → IsLeafPath p
  pub only : (p : Path) → HasElement leaves p → InRegion cells p
  pub each : (p : Path) → IsLeafPath p → InRegion cells p → HasElement leaves p
