-- Changes that are given entry by entry.
use Rattle.std.specs.Prelude.{◌≡◌, ◌≢◌, ◌⊎◌, ℕ, Some, None, Result, Ok, Err, List, [], length, map, take, slice_get}
use Rattle.s2ix_bag_lists.specs.declared.errors.ChangeError.TheVariants.{Unsorted, NoDifference}
use Rattle.s2ix_bag_lists.specs.Entries.{change_fault}
use Rattle.s2ix_bag_pairs.specs.declared.pair.Entry.{Entry}
use Rattle.s2ix_bag_pairs.specs.declared.pair.Pair.{Pair}
use Rattle.s2ix_bag_pairs.specs.Change.{IsChangeList}
use Rattle.s2ix_edit_store.specs.declared.record_error.RecordError.{RecordError}
use Rattle.s2ix_edit_store.specs.declared.record_error.RecordError.TheVariants.{JournalFull, NoChange, Mismatch, TooManyCopies, TooManyPairs, OutOfMemory}
use Rattle.s2ix_edit_store.specs.OneChange.{IsRecordRefusal, change_refusal}
use Rattle.s2ix_edit_store.specs.Steps.{after_record}
use Rattle.s2ix_edit_plan.specs.State.{State}
use Rattle.s2ix_c_calls.specs.declared.changes.EntryRow.{EntryRow}
use Rattle.s2ix_c_calls.specs.Asked.{pair_numbered}
use Rattle.s2ix_c_calls.specs.Status.{done, closed, out_of_memory, journal_full, no_change, too_many_copies, too_many_pairs, mismatch, unsorted, no_difference}

-- a pair that is there, with its counts before and after
abbrev pub with_counts : ℕ → ℕ → Result Pair ℕ → Result Entry ℕ
with_counts before after (Ok pair) = Ok (record { pair = pair; before = before; after = after })
with_counts before after (Err why) = Err why

-- the entry that a row gives, or the status of the first of its numbers that is wrong
abbrev pub entry_asked : EntryRow → Result Entry ℕ
entry_asked row = with_counts row.before row.after (pair_numbered row.cell row.label)

-- the rows give these entries
abbrev pub GiveEntries : List EntryRow → List Entry → Type 0
GiveEntries rows entries = map entry_asked rows ≡ map Ok entries

-- each row gives an entry
abbrev pub AreAllEntries : List EntryRow → Type 0
AreAllEntries rows = (entries : List Entry) × GiveEntries rows entries

-- the first row that gives no entry stands at this place, and the status says what is wrong with it
pub record IsFirstNoEntry (rows : List EntryRow) (place why : ℕ) : Type 0 where
  pub before : AreAllEntries (take place rows)
  pub row : EntryRow
  pub row_is : slice_get rows place ≡ Some row
  pub wrong : entry_asked row ≡ Err why

-- the rows give a change
abbrev pub GiveChange : List EntryRow → List Entry → Type 0
GiveChange rows change = GiveEntries rows change × IsChangeList change

abbrev pub AreChange : List EntryRow → Type 0
AreChange rows = (change : List Entry) × GiveChange rows change

-- entries are no change: at this place stands the first that is not above the one before it, else the first whose counts are equal
abbrev pub HasFault : List Entry → ℕ → ℕ → Type 0
HasFault entries place why =
    ((why ≡ unsorted) × (change_fault entries ≡ Some (Unsorted place)))
    ⊎ ((why ≡ no_difference) × (change_fault entries ≡ Some (NoDifference place)))

-- why rows give no change: the first row with a wrong number comes first, then a fault of the entries; a number tells the place of the row
abbrev pub LacksChange : List EntryRow → ℕ → ℕ → Type 0
LacksChange rows place why =
    IsFirstNoEntry rows place why ⊎ ((entries : List Entry) × GiveEntries rows entries × HasFault entries place why)

-- the status of a change that a store refuses
abbrev pub record_status : RecordError → ℕ
record_status JournalFull = journal_full
record_status NoChange = no_change
record_status (Mismatch place) = mismatch
record_status TooManyCopies = too_many_copies
record_status TooManyPairs = too_many_pairs
record_status OutOfMemory = out_of_memory

-- the place of the entry that is refused, if one is
abbrev pub record_place : RecordError → ℕ
record_place (Mismatch place) = place
record_place other = 0

-- a change that is given to a store: if it is done, the store is the one after it; else it is as it was, and the status says why
pub record IsDone (change : List Entry) (status number : ℕ) (s t : State) : Type 0 where
  pub accepted : status ≡ done → (t ≡ after_record s change) × (number ≡ length change) × (change_refusal s change ≡ None)
  pub unchanged : status ≢ done → t ≡ s
  pub refused : status ≢ done → (error : RecordError) × IsRecordRefusal error (change_refusal s change)
      × (status ≡ record_status error) × (number ≡ record_place error)

-- a change that rows give, done by a store: what is wrong with the rows comes first, then want of memory for the list of their entries, if
-- there are rows
abbrev pub RecordsRows : List EntryRow → ℕ → ℕ → State → State → Type 0
RecordsRows rows status number s t =
    (LacksChange rows number status × (t ≡ s))
    ⊎ (AreChange rows × (rows ≢ []) × (status ≡ out_of_memory) × (number ≡ 0) × (t ≡ s))
    ⊎ ((change : List Entry) × GiveChange rows change × IsDone change status number s t)

-- what a closed handle answers to a change that rows give: also there what is wrong with the rows comes first
abbrev pub RefusesChange : List EntryRow → ℕ → ℕ → Type 0
RefusesChange rows status number = LacksChange rows number status ⊎ (AreChange rows × (status ≡ closed) × (number ≡ 0))
