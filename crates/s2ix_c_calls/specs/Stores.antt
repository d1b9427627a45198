-- What calls make of a store.
use Rattle.std.specs.Prelude.{◌≡◌, ◌≢◌, ◌↔◌, ◌⊎◌, ◌≤◌, ℕ, Option, Some, None, [], length, List}
use Rattle.s2id_core.specs.declared.cell_id.CellId.{CellId}
use Rattle.s2id_union.specs.NormalForm.{normal_form}
use Rattle.s2ix_bag_pairs.specs.declared.label.Label.{Label}
use Rattle.s2ix_bag_pairs.specs.Label.{label_numbered}
use Rattle.s2ix_bag_pairs.specs.Limits.{changes_limit}
use Rattle.s2ix_bag_pairs.specs.declared.pair.Held.{Held}
use Rattle.s2ix_edit_plan.specs.declared.edit.Edit.TheVariants.{AddUnion}
use Rattle.s2ix_bag_pairs.specs.Collection.{copies_in}
use Rattle.s2ix_edit_plan.specs.declared.errors.EditError.TheVariants.{JournalFull, NoChange}
use Rattle.s2ix_edit_plan.specs.declared.edit.Edit.{Edit}
use Rattle.s2ix_edit_plan.specs.Refusals.{edit_refusal}
use Rattle.s2ix_edit_plan.specs.Rows.{rows_change, rows_refusal}
use Rattle.s2ix_edit_plan.specs.State.{State, change_of, starting_at}
use Rattle.s2ix_edit_store.specs.Steps.{after_edit, after_rows, after_undo, after_redo, undo_size, redo_size}
use Rattle.s2ix_edit_store.specs.Store.{HasRoom}
use Rattle.s2ix_cli_run.specs.LineWants.{EditWants}
use Rattle.s2ix_c_calls.specs.Asked.{AreAllCells, AreCells, AreRight, IsFirstNoCell, IsFirstWrong, LacksUnion, NameHeld}
use Rattle.s2ix_c_calls.specs.declared.rows.Row.{Row}
use Rattle.s2ix_c_calls.specs.Status.{done, closed, no_cell, no_label, out_of_memory, nothing_to_undo, nothing_to_redo, edit_status, IsRefusal}

-- an edit of a store: if it is done, the store is the one after it; else it is as it was, and the status says why; memory may be wanted
-- if the edit itself may want it
pub record IsEdited (edit : Edit) (status number : ℕ) (s t : State) : Type 0 where
  pub accepted : status ≡ done → (t ≡ after_edit s edit) × (number ≡ length (change_of s edit)) × (edit_refusal s edit ≡ None)
  pub refused : status ≢ done → (t ≡ s) × (number ≡ 0) × IsRefusal status (edit_refusal s edit)
  pub memory : status ≡ out_of_memory → EditWants s edit

-- an undo of a store
pub record IsUndone (status number : ℕ) (s t : State) : Type 0 where
  pub accepted : status ≡ done → (t ≡ after_undo s) × (number ≡ undo_size s) × (s.done ≢ [])
  pub refused : status ≢ done → (t ≡ s) × (number ≡ 0) × ((status ≡ nothing_to_undo) ⊎ (status ≡ out_of_memory))
  pub nothing : (status ≡ nothing_to_undo → s.done ≡ []) × (s.done ≡ [] → status ≡ nothing_to_undo)

-- a redo of a store
pub record IsRedone (status number : ℕ) (s t : State) : Type 0 where
  pub accepted : status ≡ done → (t ≡ after_redo s) × (number ≡ redo_size s) × (s.undone ≢ [])
  pub refused : status ≢ done → (t ≡ s) × (number ≡ 0) × ((status ≡ nothing_to_redo) ⊎ (status ≡ out_of_memory))
  pub nothing : (status ≡ nothing_to_redo → s.undone ≡ []) × (s.undone ≡ [] → status ≡ nothing_to_redo)

-- pairs added to the counts of a store: if it is done, they are one change; else the store is as it was, and the status says why
pub record IsAdded (rows : List Held) (status number : ℕ) (s t : State) : Type 0 where
  pub accepted : status ≡ done → (t ≡ after_rows s rows) × (number ≡ length (rows_change s.bag.held rows)) × (rows_refusal s rows ≡ None)
  pub refused : status ≢ done → (t ≡ s) × (number ≡ 0) × IsRefusal status (rows_refusal s rows)
  pub no_change : (status ≡ edit_status NoChange) ↔ (HasRoom s × (copies_in rows ≡ 0))

-- what P says of the pairs that rows name by their numbers: the first wrong row comes first, then want of memory for the list of their pairs,
-- if there are rows
abbrev pub OfRows : (List Held → ℕ → ℕ → State → State → Type 0) → List Row → ℕ → ℕ → State → State → Type 0
OfRows P rows status number s t =
    (IsFirstWrong rows number status × (t ≡ s))
    ⊎ (AreRight rows × (rows ≢ []) × (status ≡ out_of_memory) × (number ≡ 0) × (t ≡ s))
    ⊎ ((held : List Held) × NameHeld rows held × P held status number s t)

-- rows added to the counts of a store
abbrev pub AddsRows : List Row → ℕ → ℕ → State → State → Type 0
AddsRows rows status number s t = OfRows IsAdded rows status number s t

-- what a closed handle answers to rows: also there the first wrong one comes first
abbrev pub RefusesRows : List Row → ℕ → ℕ → Type 0
RefusesRows rows status number = IsFirstWrong rows number status ⊎ (AreRight rows × (status ≡ closed) × (number ≡ 0))

-- an edit of no copies: it is refused for a full journal, or because nothing would change
pub record AddsNothing (status number : ℕ) (s t : State) : Type 0 where
  pub unchanged : (t ≡ s) × (number ≡ 0)
  pub full : changes_limit s.bag.limits ≤ length s.done → status ≡ edit_status JournalFull
  pub nothing : HasRoom s → status ≡ edit_status NoChange

-- the cells of a union by their numbers, added under a label: the first number that is no cell's comes first, then want of memory for the
-- union
abbrev pub AddsCells : List ℕ → Label → ℕ → ℕ → State → State → Type 0
AddsCells ids label status number s t =
    (LacksUnion ids status number × (t ≡ s))
    ⊎ ((cells : List CellId) × AreCells ids cells × IsEdited (AddUnion (normal_form cells) label) status number s t)

-- the same under a label that is there; no union is made of no cells, so no memory is wanted then
abbrev pub AddsUnder : Option Label → List ℕ → ℕ → ℕ → State → State → Type 0
AddsUnder None ids status number s t = (status ≡ no_label) × (number ≡ 0) × (t ≡ s)
AddsUnder (Some label) ids status number s t =
    ((ids ≡ []) × AddsNothing status number s t) ⊎ ((ids ≢ []) × AddsCells ids label status number s t)

-- a union of cells under a label, both by their numbers, added to the counts of a store: a wrong label comes before all else
abbrev pub AddsUnion : List ℕ → ℕ → ℕ → ℕ → State → State → Type 0
AddsUnion ids label status number s t = AddsUnder (label_numbered label) ids status number s t

-- what a closed handle answers to a union under a label, both by their numbers: the order is the same
abbrev pub RefusesUnder : Option Label → List ℕ → ℕ → ℕ → Type 0
RefusesUnder None ids status number = (status ≡ no_label) × (number ≡ 0)
RefusesUnder (Some label) ids status number =
    ((status ≡ no_cell) × IsFirstNoCell ids number) ⊎ (AreAllCells ids × (status ≡ closed) × (number ≡ 0))

abbrev pub RefusesUnion : List ℕ → ℕ → ℕ → ℕ → Type 0
RefusesUnion ids label status number = RefusesUnder (label_numbered label) ids status number

-- a store is empty under the limits that it had, with nothing to undo or redo; or memory is wanted, and it is as it was
pub record IsCleared (status : ℕ) (s t : State) : Type 0 where
  pub accepted : status ≡ done → t ≡ starting_at (record { limits = s.bag.limits; held = [] })
  pub refused : status ≢ done → (status ≡ out_of_memory) × (t ≡ s)
