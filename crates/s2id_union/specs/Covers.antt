-- Lists of cells as sets of numbers, and in the order of the curve. Leaf numbers are odd, and so are both ends of each span.
use Rattle.std.specs.Prelude.{ℕ, ◌<◌, ◌≤◌, List, AllPairs, Contains as HasElement}
use Rattle.s2id_core.specs.declared.cell_id.CellId.{CellId}
use Rattle.s2id_core.specs.CellId.{first_of, end_of}

-- a number lies in the span of one of the cells
pub record Covers (cells : List CellId) (q : ℕ) : Type 0 where
  pub cell : CellId
  pub held : HasElement cells cell
  pub from : first_of cell ≤ q
  pub to : q < end_of cell

-- one after another along the curve, with or without gaps: each cell's span ends before the next one's begins
abbrev pub FollowOneAnother : List CellId → Type 0
FollowOneAnother = AllPairs (λ a b. end_of a ≤ first_of b)
