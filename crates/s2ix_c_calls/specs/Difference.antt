-- What leads from one store to another.
use Rattle.std.specs.Prelude.{List, map}
use Rattle.s2ix_bag_pairs.specs.Change.{change_between}
use Rattle.s2ix_edit_plan.specs.State.{State}
use Rattle.s2ix_c_calls.specs.declared.changes.EntryRow.{EntryRow}
use Rattle.s2ix_c_calls.specs.Changes.{entry_row_of}

-- the entries of the change between what two stores hold
abbrev pub rows_between : State → State → List EntryRow
rows_between before after = map entry_row_of (change_between before.bag.held after.bag.held)
