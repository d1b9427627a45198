-- Changes that are given to a store, as what was done before it or as what it does next, and when it refuses them.
use Rattle.std.specs.Prelude.{◌≡◌, ℕ, ◌+◌, ◌-◌, nat_lt, if◌then◌else◌, Option, Some, None, List, [], ◌∷◌, ◌++◌, length}
use Rattle.std.specs.Option.{option_map, option_or}
use Rattle.s2ix_bag_pairs.specs.declared.pair.Entry.{Entry}
use Rattle.s2ix_bag_pairs.specs.Collection.{LimitedCollection}
use Rattle.s2ix_bag_pairs.specs.Limits.{changes_limit}
use Rattle.s2ix_bag.specs.declared.replay_error.ReplayError.{ReplayError}
use Rattle.s2ix_bag.specs.declared.replay_error.ReplayError.TheVariants as replay
use Rattle.s2ix_bag.specs.Replay.{replayed, replay_refusal, rewind_refusal}
use Rattle.s2ix_bag_pairs.specs.Change.{change_between, changed}
use Rattle.s2ix_edit_plan.specs.History.{History, at_cursor, with_next}
use Rattle.s2ix_edit_plan.specs.State.{State}
use Rattle.s2ix_edit_store.specs.Steps.{faces_of}
use Rattle.s2ix_edit_store.specs.declared.history_error.HistoryError.{HistoryError}
use Rattle.s2ix_edit_store.specs.declared.history_error.HistoryError.TheVariants.{JournalFull, NoChange, Mismatch, TooManyCopies, TooManyPairs, OutOfMemory}

-- the number of the first change without entries, if they are numbered from this one on
abbrev pub first_empty_from : ℕ → List (List Entry) → Option ℕ
first_empty_from number [] = None
first_empty_from number ([] ∷ rest) = Some number
first_empty_from number ((e ∷ es) ∷ rest) = first_empty_from (number + 1) rest

-- and if they are numbered from 1
abbrev pub first_empty : List (List Entry) → Option ℕ
first_empty changes = first_empty_from 1 changes

-- the error that tells what replay or rewind tells
abbrev pub history_error : ReplayError → HistoryError
history_error (replay.Mismatch change entry) = Mismatch change entry
history_error (replay.TooManyCopies change) = TooManyCopies change
history_error (replay.TooManyPairs change) = TooManyPairs change
history_error replay.OutOfMemory = OutOfMemory

-- why changes aren't recorded if there is room for so many: they are more, else one has no entries
abbrev pub record_refusal : ℕ → List (List Entry) → Option HistoryError
record_refusal room changes =
    if nat_lt room (length changes) then Some JournalFull else option_map NoChange (first_empty changes)

-- why no store starts from a bag with these changes done, memory aside: they can't be recorded, else rewind refuses them
abbrev pub history_refusal : LimitedCollection → List (List Entry) → Option HistoryError
history_refusal bag changes =
    option_or (record_refusal (changes_limit bag.limits) changes) (option_map history_error (rewind_refusal bag changes))

-- the error is the refusal, or memory was wanted
abbrev pub IsHistoryError : HistoryError → Option HistoryError → Type 0
IsHistoryError JournalFull refusal = refusal ≡ Some JournalFull
IsHistoryError (NoChange change) refusal = refusal ≡ Some (NoChange change)
IsHistoryError (Mismatch change entry) refusal = refusal ≡ Some (Mismatch change entry)
IsHistoryError (TooManyCopies change) refusal = refusal ≡ Some (TooManyCopies change)
IsHistoryError (TooManyPairs change) refusal = refusal ≡ Some (TooManyPairs change)
IsHistoryError OutOfMemory refusal = Unit {0}

-- the store of a bag to which changes led
abbrev pub led_by : LimitedCollection → List (List Entry) → State
led_by bag changes = record { bag = bag; done = changes; undone = []; faces_rebuilt = 0 }

-- why a store doesn't do changes, memory aside: they can't be recorded after those that it did, else replay refuses them
abbrev pub given_refusal : State → List (List Entry) → Option HistoryError
given_refusal s changes =
    option_or (record_refusal (changes_limit s.bag.limits - length s.done) changes) (option_map history_error (replay_refusal s.bag changes))

-- the store after changes are done, each one of its own; if there are none it stays as it is
abbrev pub after_apply : State → List (List Entry) → State
after_apply s [] = s
after_apply s (es ∷ rest) = record {
  bag = replayed s.bag (es ∷ rest);
  done = s.done ++ es ∷ rest;
  undone = [];
  faces_rebuilt = faces_of (change_between s.bag.held (replayed s.bag (es ∷ rest)).held);
}

-- how many pairs they change together
abbrev pub apply_size : State → List (List Entry) → ℕ
apply_size s changes = length (change_between s.bag.held (replayed s.bag changes).held)

-- the history that goes on by these changes, each a step from the cursor's collection; if there are none it stays as it is
abbrev pub with_changes : List (List Entry) → History → History
with_changes [] h = h
with_changes (es ∷ rest) h = with_changes rest (with_next h (changed (at_cursor h) es))
