-- What steps that are no edit make of a history: those before its newest forgotten, the last ones joined.
use Rattle.std.specs.Prelude.{ℕ, ◌+◌, ◌-◌, ◌==◌, if◌then◌else◌, [], ◌++◌, length, take, drop, get_or}
use Rattle.s2ix_bag_pairs.specs.Change.{change_between}
use Rattle.s2ix_bag_pairs.specs.Collection.{Collection}
use Rattle.s2ix_edit_plan.specs.History.{History, at_cursor}

-- the history after all changes up to the cursor but the newest, so many, are forgotten: it starts that many collections before the
-- cursor, or where it started
abbrev pub with_newest : ℕ → History → History
with_newest newest h = record { collections = drop (h.cursor - newest) h.collections; cursor = h.cursor - (h.cursor - newest) }

-- the history up to the cursor: nothing can be redone
abbrev pub up_to_cursor : History → History
up_to_cursor h = record { collections = take (h.cursor + 1) h.collections; cursor = h.cursor }

-- the collection so many places before the cursor
abbrev pub steps_before : ℕ → History → Collection
steps_before number h = get_or h.collections (h.cursor - number) []

-- the history without the collections from a place up to the cursor's, which comes to that place
abbrev pub without_from : ℕ → History → History
without_from place h = record { collections = take place h.collections ++ drop h.cursor h.collections; cursor = place }

-- the history after the last steps up to the cursor, so many, become one, or none if they changed nothing together
abbrev pub with_joined : ℕ → History → History
with_joined number h =
    if length (change_between (steps_before number h) (at_cursor h)) == 0 then without_from (h.cursor - number) h
    else without_from (h.cursor - number + 1) h
