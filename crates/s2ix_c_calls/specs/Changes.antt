-- The entries of a change that can be undone.
use Rattle.std.specs.Prelude.{ℕ, Option, Some, None, List, map}
use Rattle.s2id_core.specs.CellId.{raw_of}
use Rattle.s2ix_bag_pairs.specs.declared.pair.Entry.{Entry}
use Rattle.s2ix_bag_pairs.specs.Label.{value_of}
use Rattle.s2ix_edit_plan.specs.Edit.{numbered}
use Rattle.s2ix_edit_plan.specs.State.{State}
use Rattle.s2ix_c_calls.specs.declared.changes.EntryRow.{EntryRow}
use Rattle.s2ix_c_calls.specs.Lists.{IsPut, IsRefused}
use Rattle.s2ix_c_calls.specs.Status.{no_such_change}

-- an entry as C sees it
abbrev pub entry_row_of : Entry → EntryRow
entry_row_of e = record { cell = raw_of e.pair.cell; label = value_of e.pair.label; before = e.before; after = e.after }

-- the entries of a change, in a buffer; or there is no such change
abbrev pub ListsEntries : Option (List Entry) → ℕ → ℕ → List EntryRow → List EntryRow → Type 0
ListsEntries (Some entries) status number old new = IsPut (map entry_row_of entries) status number old new
ListsEntries None status number old new = IsRefused no_such_change status number old new

-- the entries of the change with a number, counted from 1 among those that can be undone, in a buffer
abbrev pub ListsChange : ℕ → State → ℕ → ℕ → List EntryRow → List EntryRow → Type 0
ListsChange change s status number old new = ListsEntries (numbered change s.done) status number old new
