-- Rows that are removed: pairs, each with copies to take from its count.
use Rattle.std.specs.Prelude.{◌≡◌, ◌≢◌, ℕ, ◌+◌, ◌-◌, ◌==◌, nat_lt, nat_le, if◌then◌else◌, Option, Some, None, List, [], ◌∷◌, length}
use Rattle.s2ix_bag_pairs.specs.declared.pair.Entry.{Entry}
use Rattle.s2ix_bag_pairs.specs.declared.pair.Held.{Held}
use Rattle.s2ix_bag_pairs.specs.declared.pair.Pair.{Pair}
use Rattle.s2ix_bag_lists.specs.Apply.{apply_refusal}
use Rattle.s2ix_bag_pairs.specs.Change.{change_between, changed, IsChangeList}
use Rattle.s2ix_bag_pairs.specs.Collection.{Collection, LimitedCollection, copies_in, count_in, set_count}
use Rattle.s2ix_bag_pairs.specs.Limits.{changes_limit}
use Rattle.s2ix_edit_plan.specs.declared.errors.RemoveError.{RemoveError}
use Rattle.s2ix_edit_plan.specs.declared.errors.RemoveError.TheVariants.{JournalFull, NotHeld, NoChange, OutOfMemory}
use Rattle.s2ix_edit_plan.specs.Rows.{PlansRows}
use Rattle.s2ix_edit_plan.specs.State.{State}

-- the collection with copies taken from the count of one pair
abbrev pub with_fewer : Pair → ℕ → Collection → Collection
with_fewer pair copies hs = set_count pair (count_in hs pair - copies) hs

-- the collection with the copies of each row taken from the count of the row's pair, one row after the other
abbrev pub without_rows : List Held → Collection → Collection
without_rows [] hs = hs
without_rows (row ∷ rows) hs = without_rows rows (with_fewer row.pair row.count hs)

-- the place of the first row that takes more copies than are left when its turn comes, if the places are counted from this one on
abbrev pub first_not_held_from : ℕ → List Held → Collection → Option ℕ
first_not_held_from place [] hs = None
first_not_held_from place (row ∷ rows) hs =
    if nat_lt (count_in hs row.pair) row.count then Some place
    else first_not_held_from (place + 1) rows (with_fewer row.pair row.count hs)

-- and if they are counted from 0
abbrev pub first_not_held : List Held → Collection → Option ℕ
first_not_held rows hs = first_not_held_from 0 rows hs

-- the change that the removal of rows makes of a collection
abbrev pub removal_change : Collection → List Held → List Entry
removal_change hs rows = change_between hs (without_rows rows hs)

-- why rows aren't removed if the journal has room, memory aside: a row takes more copies than are left, else no row has any
abbrev pub removal_plan_refusal : Collection → List Held → Option RemoveError
removal_plan_refusal hs rows =
    elim (first_not_held rows hs) [
      | Some place ↦ Some (NotHeld place)
      | None ↦ if copies_in rows == 0 then Some NoChange else None
    ]

-- why a store doesn't remove rows: a full journal comes first
abbrev pub removal_refusal : State → List Held → Option RemoveError
removal_refusal s rows =
    if nat_le (changes_limit s.bag.limits) (length s.done) then Some JournalFull else removal_plan_refusal s.bag.held rows

-- the error is the refusal; or memory was wanted, but neither for a full journal nor for rows without copies
abbrev pub IsRemoveRefusal : RemoveError → Option RemoveError → Type 0
IsRemoveRefusal JournalFull refusal = refusal ≡ Some JournalFull
IsRemoveRefusal (NotHeld place) refusal = refusal ≡ Some (NotHeld place)
IsRemoveRefusal NoChange refusal = refusal ≡ Some NoChange
IsRemoveRefusal OutOfMemory refusal = (refusal ≢ Some JournalFull) × (refusal ≢ Some NoChange)

-- the entries remove the rows: each row finds its copies, and the bag takes the entries and comes to the collection without the rows
pub record TakesRows (bag : LimitedCollection) (rows : List Held) (es : List Entry) : Type 0 where
  pub held : first_not_held rows bag.held ≡ None
  pub rises : IsChangeList es
  pub taken : apply_refusal bag es ≡ None
  pub result : changed bag.held es ≡ without_rows rows bag.held

-- ---- how the entries are found

-- the change that removes the rows was found, or there is none because some row takes too many copies
abbrev pub IsRemoval : LimitedCollection → List Held → Option (List Entry) → Type 0
IsRemoval bag rows (Some es) = TakesRows bag rows es
IsRemoval bag rows None = first_not_held rows bag.held ≢ None

-- how many copies the rows have of each pair, as the change that adds them to none, or there is no such change because some row takes
-- too many copies
abbrev pub AreCopies : LimitedCollection → List Held → Option (List Entry) → Type 0
AreCopies bag rows (Some es) = PlansRows (record { limits = bag.limits; held = [] }) rows es
AreCopies bag rows None = first_not_held rows bag.held ≢ None
