-- What each step of a store makes of its state.
use Rattle.std.specs.Prelude.{◌≡◌, ℕ, ◌-◌, Option, Some, None, List, [], ◌∷◌, ◌++◌, length, take, drop, slice_get}
use Rattle.s2ix_bag_pairs.specs.declared.pair.Entry.{Entry}
use Rattle.s2ix_bag_pairs.specs.declared.pair.Held.{Held}
use Rattle.s2ix_bag_pairs.specs.Change.{change_between, changed, inverse_of}
use Rattle.s2ix_bag_pairs.specs.Collection.{Collection, LimitedCollection}
pub use Rattle.s2ix_table_kept.specs.Faces.{faces_of}
use Rattle.s2ix_edit_plan.specs.declared.edit.Edit.{Edit}
use Rattle.s2ix_edit_plan.specs.Edit.{edited}
use Rattle.s2ix_edit_plan.specs.Removals.{removal_change, without_rows}
use Rattle.s2ix_edit_plan.specs.Rows.{rows_change, with_rows}
use Rattle.s2ix_edit_plan.specs.State.{State, change_of, history_of}
use Rattle.s2ix_edit_store.specs.Shortened.{steps_before}

-- a bag with another collection
abbrev pub with_held : LimitedCollection → Collection → LimitedCollection
with_held bag hs = record { limits = bag.limits; held = hs }

-- the store after a step to a collection: these entries are the last change that was done, and nothing can be redone
abbrev pub after_step : State → Collection → List Entry → State
after_step s hs es = record { bag = with_held s.bag hs; done = s.done ++ es ∷ []; undone = []; faces_rebuilt = faces_of es }

-- the store after an accepted edit
abbrev pub after_edit : State → Edit → State
after_edit s edit = after_step s (edited (history_of s) edit) (change_of s edit)

-- the store after rows are added: they are one change
abbrev pub after_rows : State → List Held → State
after_rows s rows = after_step s (with_rows rows s.bag.held) (rows_change s.bag.held rows)

-- the store after rows are removed: they are one change
abbrev pub after_removal : State → List Held → State
after_removal s rows = after_step s (without_rows rows s.bag.held) (removal_change s.bag.held rows)

-- the store after planned entries: its bag has the counts after
abbrev pub after_record : State → List Entry → State
after_record s es = after_step s (changed s.bag.held es) es

-- the change that an undo takes back: the last that was done
abbrev pub last_done : State → Option (List Entry)
last_done s = slice_get s.done (length s.done - 1)

-- the store after an undo that takes this change back
abbrev pub after_undo_of : State → List Entry → State
after_undo_of s es = record {
  bag = with_held s.bag (changed s.bag.held (inverse_of es));
  done = take (length s.done - 1) s.done;
  undone = s.undone ++ es ∷ [];
  faces_rebuilt = faces_of es;
}

-- the store after an undo; with nothing to undo it stays as it is
abbrev pub after_undo : State → State
after_undo s = elim (last_done s) [ Some es ↦ after_undo_of s es | None ↦ s ]

-- how many pairs an undo changes
abbrev pub undo_size : State → ℕ
undo_size s = elim (last_done s) [ Some es ↦ length es | None ↦ 0 ]

-- the change that a redo does again: the last that was undone
abbrev pub last_undone : State → Option (List Entry)
last_undone s = slice_get s.undone (length s.undone - 1)

-- the store after a redo that does this change again
abbrev pub after_redo_of : State → List Entry → State
after_redo_of s es = record {
  bag = with_held s.bag (changed s.bag.held es);
  done = s.done ++ es ∷ [];
  undone = take (length s.undone - 1) s.undone;
  faces_rebuilt = faces_of es;
}

-- the store after a redo; with nothing to redo it stays as it is
abbrev pub after_redo : State → State
after_redo s = elim (last_undone s) [ Some es ↦ after_redo_of s es | None ↦ s ]

-- how many pairs a redo changes
abbrev pub redo_size : State → ℕ
redo_size s = elim (last_undone s) [ Some es ↦ length es | None ↦ 0 ]

-- the store after its changes are forgotten
abbrev pub after_forget : State → State
after_forget s = record { bag = s.bag; done = []; undone = []; faces_rebuilt = s.faces_rebuilt }

-- the store after all changes done but the newest, so many, are forgotten; what can be redone stays
abbrev pub after_forget_older : State → ℕ → State
after_forget_older s newest = record {
  bag = s.bag;
  done = drop (length s.done - newest) s.done;
  undone = s.undone;
  faces_rebuilt = s.faces_rebuilt;
}

-- the change that the last changes done, so many, make together
abbrev pub joined_last : State → ℕ → List Entry
joined_last s number = change_between (steps_before number (history_of s)) s.bag.held

-- a change as the list that has no other; one without entries is no change
abbrev pub recorded_alone : List Entry → List (List Entry)
recorded_alone [] = []
recorded_alone (e ∷ es) = (e ∷ es) ∷ []

-- the store after the last changes done, so many, become one; what can be redone stays
abbrev pub after_join : State → ℕ → State
after_join s number = record {
  bag = s.bag;
  done = take (length s.done - number) s.done ++ recorded_alone (joined_last s number);
  undone = s.undone;
  faces_rebuilt = s.faces_rebuilt;
}

-- the last change of one list is now at the end of the other, and has this many entries
pub record IsShifted (from to from_after to_after : List (List Entry)) (number : ℕ) : Type 0 where
  pub last : List Entry
  pub taken : from ≡ from_after ++ last ∷ []
  pub put : to_after ≡ to ++ last ∷ []
  pub size : number ≡ length last
