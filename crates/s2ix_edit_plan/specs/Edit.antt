-- What an edit makes of a collection with its history.
use Rattle.std.specs.Prelude.{ℕ, zero, suc, ◌+◌, ◌-◌, ◌==◌, Bool, not, Option, Some, None, List, [], ◌∷◌, slice_get}
use Rattle.std.specs.List.{filter}
use Rattle.s2id_core.specs.declared.cell_id.CellId.{CellId}
use Rattle.s2ix_bag_pairs.specs.declared.label.Label.{Label}
use Rattle.s2ix_bag_pairs.specs.declared.pair.Pair.{Pair}
use Rattle.s2ix_bag_pairs.specs.declared.pair.Entry.{Entry}
use Rattle.s2ix_bag_pairs.specs.declared.pair.Held.{Held}
use Rattle.s2ix_bag_pairs.specs.Label.{value_of}
use Rattle.s2ix_bag_pairs.specs.Collection.{Collection, count_in, set_count}
use Rattle.s2ix_bag_pairs.specs.OfLabel.{held_of}
use Rattle.s2ix_bag_pairs.specs.TakenBack.{taken_back}
use Rattle.s2ix_edit_plan.specs.declared.edit.Edit.{Edit}
use Rattle.s2ix_edit_plan.specs.declared.edit.Edit.TheVariants.{Add, AddUnion, Remove, DropLabel, Relabel, Grow, Normalise, Revert}
use Rattle.s2ix_edit_plan.specs.Grow.{grown_cells}
use Rattle.s2ix_edit_plan.specs.History.{History, at_cursor, standing}
use Rattle.s2ix_edit_plan.specs.Region.{region_of}

-- the pair of a cell under a label
abbrev pub pair_of : CellId → Label → Pair
pair_of cell label = record { cell = cell; label = label }

-- whether a held pair is of the label
abbrev pub is_of : Label → Held → Bool
is_of label h = value_of h.pair.label == value_of label

-- the held pairs of other labels
abbrev pub without_label : Label → Collection → Collection
without_label label hs = filter (λ h. not (is_of label h)) hs

-- the collection with copies added to the count of one pair
abbrev pub with_more : Pair → ℕ → Collection → Collection
with_more pair copies hs = set_count pair (count_in hs pair + copies) hs

-- the collection with one copy more under the label for each of the cells
abbrev pub with_each : Label → List CellId → Collection → Collection
with_each label [] hs = hs
with_each label (c ∷ cs) hs = with_each label cs (with_more (pair_of c label) 1 hs)

-- the collection with the copies of one held pair moved to the target's pair of its cell
abbrev pub with_moved : Label → Held → Collection → Collection
with_moved target h hs = with_more (pair_of h.pair.cell target) h.count (set_count h.pair 0 hs)

-- the collection with the copies of each of the held pairs moved so
abbrev pub with_all_moved : Label → List Held → Collection → Collection
with_all_moved target [] hs = hs
with_all_moved target (h ∷ rest) hs = with_all_moved target rest (with_moved target h hs)

-- the change with this number, counted from 1; number 0 is that of none
abbrev pub numbered : ℕ → List (List Entry) → Option (List Entry)
numbered zero changes = None
numbered (suc place) changes = slice_get changes place

-- the collection with a change taken back from it; it stays if there is no such change
abbrev pub without_change : Option (List Entry) → Collection → Collection
without_change (Some es) hs = taken_back hs es
without_change None hs = hs

-- the collection after the edit of one that these changes led to, the oldest first: `Add` adds copies to the pair's
-- count, `AddUnion` one copy under the label for each cell, `Remove` takes copies from the pair's count, `DropLabel`
-- takes the label's pairs away, `Relabel` moves the copies of each pair of `source` to the same cell's pair of
-- `target`, `Grow` adds one copy under the label for each cell of the level that overlaps no cell of the label and
-- shares an edge with a cell of the level that overlaps one, `Normalise` takes the label's pairs away and adds one copy
-- for each cell of the label's region, and `Revert` subtracts the differences of the change with the number
abbrev pub edited_by : List (List Entry) → Edit → Collection → Collection
edited_by changes (Add pair copies) hs = with_more pair copies hs
edited_by changes (AddUnion cells label) hs = with_each label cells hs
edited_by changes (Remove pair copies) hs = set_count pair (count_in hs pair - copies) hs
edited_by changes (DropLabel label) hs = without_label label hs
edited_by changes (Relabel source target) hs = with_all_moved target (held_of source hs) hs
edited_by changes (Grow label level) hs = with_each label (grown_cells label level hs) hs
edited_by changes (Normalise label) hs = with_each label (region_of label hs) (without_label label hs)
edited_by changes (Revert number) hs = without_change (numbered number changes) hs

-- the collection after the edit of the one at the cursor, to which the standing changes led
abbrev pub edited : History → Edit → Collection
edited h edit = edited_by (standing h) edit (at_cursor h)

-- the collection after the edit of one that no change led to
abbrev pub edited_alone : Edit → Collection → Collection
edited_alone = edited_by []
