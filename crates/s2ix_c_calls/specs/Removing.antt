-- Rows that are removed from the counts of a store.
use Rattle.std.specs.Prelude.{◌≡◌, ◌≢◌, ℕ, None, List, length}
use Rattle.s2ix_bag_pairs.specs.declared.pair.Held.{Held}
use Rattle.s2ix_edit_store.specs.Steps.{after_removal}
use Rattle.s2ix_edit_plan.specs.declared.errors.RemoveError.{RemoveError}
use Rattle.s2ix_edit_plan.specs.declared.errors.RemoveError.TheVariants.{JournalFull, NotHeld, NoChange, OutOfMemory}
use Rattle.s2ix_edit_plan.specs.Removals.{IsRemoveRefusal, removal_change, removal_refusal}
use Rattle.s2ix_edit_plan.specs.State.{State}
use Rattle.s2ix_c_calls.specs.declared.rows.Row.{Row}
use Rattle.s2ix_c_calls.specs.Status.{done, out_of_memory, journal_full, not_held, no_change}
use Rattle.s2ix_c_calls.specs.Stores.{OfRows}

-- the status of rows that are not removed
abbrev pub remove_status : RemoveError → ℕ
remove_status JournalFull = journal_full
remove_status (NotHeld place) = not_held
remove_status NoChange = no_change
remove_status OutOfMemory = out_of_memory

-- the place of the row that is refused, if one is
abbrev pub remove_place : RemoveError → ℕ
remove_place (NotHeld place) = place
remove_place other = 0

-- pairs removed from the counts of a store: if it is done, they are one change; else the store is as it was, and the status says why
pub record IsRemoved (rows : List Held) (status number : ℕ) (s t : State) : Type 0 where
  pub accepted : status ≡ done → (t ≡ after_removal s rows) × (number ≡ length (removal_change s.bag.held rows)) × (removal_refusal s rows ≡ None)
  pub unchanged : status ≢ done → t ≡ s
  pub refused : status ≢ done → (error : RemoveError) × IsRemoveRefusal error (removal_refusal s rows)
      × (status ≡ remove_status error) × (number ≡ remove_place error)

-- rows by their numbers, removed from the counts of a store, with the same refusals as rows that are added
abbrev pub RemovesRows : List Row → ℕ → ℕ → State → State → Type 0
RemovesRows rows status number s t = OfRows IsRemoved rows status number s t
