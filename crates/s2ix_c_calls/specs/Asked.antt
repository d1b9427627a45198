-- What numbers ask for.
use Rattle.std.specs.Prelude.{◌≡◌, ◌⊎◌, ℕ, ◌≤◌, length, List, [], ◌∷◌, map, take, slice_get, All, Contains, Option, Some, None, Result, Ok, Err, IsOk}
use Rattle.s2id_core.specs.declared.cell_id.CellId.{CellId}
use Rattle.s2id_core.specs.Cell.{IsCellNumber}
use Rattle.s2id_core.specs.CellId.{level_of, raw_of}
use Rattle.s2id_core.specs.Spelled.{cell_numbered}
use Rattle.s2id_union.specs.Covers.{FollowOneAnother}
use Rattle.s2id_union.specs.Region.{HaveSameRegion}
use Rattle.s2ix_bag_pairs.specs.declared.label.Label.{Label}
use Rattle.s2ix_bag_pairs.specs.declared.pair.Held.{Held}
use Rattle.s2ix_bag_pairs.specs.declared.pair.Pair.{Pair}
use Rattle.s2ix_bag_pairs.specs.Label.{label_numbered}
use Rattle.s2ix_edit_plan.specs.declared.edit.Edit.{Edit}
use Rattle.s2ix_edit_plan.specs.declared.edit.Edit.TheVariants.{Add, Remove, DropLabel, Relabel, Grow, Normalise}
use Rattle.s2ix_c_calls.specs.declared.rows.Row.{Row}
use Rattle.s2ix_c_calls.specs.Status.{no_cell, no_label, out_of_memory}

-- the numbers are those of these cells
abbrev pub AreCells : List ℕ → List CellId → Type 0
AreCells ids cells = map raw_of cells ≡ ids

-- the numbers are that of one leaf
abbrev pub IsOneLeaf : List ℕ → Type 0
IsOneLeaf ids = (leaf : CellId) × (level_of leaf ≡ 30) × AreCells ids (leaf ∷ [])

-- the numbers are those of cells that follow one another along the curve, none within another: at most 1,024, perhaps none
pub record AreFollowing (ids : List ℕ) : Type 0 where
  pub cells : List CellId
  pub are : AreCells ids cells
  pub following : FollowOneAnother cells
  pub at_most : length ids ≤ 1024

-- the numbers are not those of at most 1,024 cells that follow one another: so if each is a cell's, a union is made
abbrev pub NeedUnion : List ℕ → Type 0
NeedUnion ids = AreFollowing ids → ⊥

-- cells have the leaves of those with these numbers
abbrev pub AreTarget : List ℕ → List CellId → Type 0
AreTarget ids target = (cells : List CellId) × AreCells ids cells × HaveSameRegion target cells

-- one of the numbers is no cell's
abbrev pub LacksCell : List ℕ → Type 0
LacksCell ids = (id : ℕ) × Contains ids id × (IsCellNumber id → ⊥)

-- the first number that is no cell's stands at this place
pub record IsFirstNoCell (ids : List ℕ) (place : ℕ) : Type 0 where
  pub cells : List CellId
  pub before : AreCells (take place ids) cells
  pub id : ℕ
  pub id_is : slice_get ids place ≡ Some id
  pub wrong : IsCellNumber id → ⊥

-- each of the numbers is a cell's
abbrev pub AreAllCells : List ℕ → Type 0
AreAllCells ids = (cells : List CellId) × AreCells ids cells

-- why there is no union of the cells with these numbers: one is no cell's, and a number tells the place of the first; or memory is wanted
abbrev pub LacksUnion : List ℕ → ℕ → ℕ → Type 0
LacksUnion ids why number =
    ((why ≡ no_cell) × IsFirstNoCell ids number)
    ⊎ ((why ≡ out_of_memory) × (number ≡ 0) × AreAllCells ids)

-- the pair of a cell and a label that are there, or the status of the first that is not
abbrev pub pair_of : Option CellId → Option Label → Result Pair ℕ
pair_of None label = Err no_cell
pair_of (Some cell) None = Err no_label
pair_of (Some cell) (Some label) = Ok (record { cell = cell; label = label })

abbrev pub pair_numbered : ℕ → ℕ → Result Pair ℕ
pair_numbered cell label = pair_of (cell_numbered cell) (label_numbered label)

-- an edit of a pair that is there
abbrev pub of_pair : (Pair → Edit) → Result Pair ℕ → Result Edit ℕ
of_pair edit (Ok pair) = Ok (edit pair)
of_pair edit (Err why) = Err why

-- an edit of a label that is there
abbrev pub of_label : (Label → Edit) → Option Label → Result Edit ℕ
of_label edit (Some label) = Ok (edit label)
of_label edit None = Err no_label

abbrev pub asked_add : ℕ → ℕ → ℕ → Result Edit ℕ
asked_add cell label copies = of_pair (λ pair. Add pair copies) (pair_numbered cell label)

abbrev pub asked_remove : ℕ → ℕ → ℕ → Result Edit ℕ
asked_remove cell label copies = of_pair (λ pair. Remove pair copies) (pair_numbered cell label)

abbrev pub asked_drop : ℕ → Result Edit ℕ
asked_drop label = of_label (λ label. DropLabel label) (label_numbered label)

-- an edit of two labels that are there
abbrev pub relabel_of : Option Label → Option Label → Result Edit ℕ
relabel_of (Some source) (Some target) = Ok (Relabel source target)
relabel_of (Some source) None = Err no_label
relabel_of None target = Err no_label

abbrev pub asked_relabel : ℕ → ℕ → Result Edit ℕ
asked_relabel source target = relabel_of (label_numbered source) (label_numbered target)

abbrev pub asked_grow : ℕ → ℕ → Result Edit ℕ
asked_grow label level = of_label (λ label. Grow label level) (label_numbered label)

abbrev pub asked_normalise : ℕ → Result Edit ℕ
asked_normalise label = of_label (λ label. Normalise label) (label_numbered label)

-- a pair that is there, with a count
abbrev pub with_count : ℕ → Result Pair ℕ → Result Held ℕ
with_count count (Ok pair) = Ok (record { pair = pair; count = count })
with_count count (Err why) = Err why

-- the pair with a count that a row names, or the status of the first number that is wrong
abbrev pub held_asked : Row → Result Held ℕ
held_asked row = with_count row.count (pair_numbered row.cell row.label)

-- the rows name these pairs with their counts
abbrev pub NameHeld : List Row → List Held → Type 0
NameHeld rows held = map held_asked rows ≡ map Ok held

-- each row names a pair
pub record AreRight (rows : List Row) : Type 0 where
  pub each : All (λ row. IsOk (held_asked row)) rows

-- the first row with a wrong number stands at this place, and the status says what is wrong
pub record IsFirstWrong (rows : List Row) (place why : ℕ) : Type 0 where
  pub before : AreRight (take place rows)
  pub row : Row
  pub row_is : slice_get rows place ≡ Some row
  pub wrong : held_asked row ≡ Err why
