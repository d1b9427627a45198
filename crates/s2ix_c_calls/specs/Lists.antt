-- Lists in buffers of the caller.
use Rattle.std.specs.Prelude.{◌≡◌, ◌≢◌, ◌⊎◌, ℕ, ◌<◌, Option, Some, None, Result, Ok, Err, List, [], length, map, take, drop}
use Rattle.s2id_core.specs.declared.cell_id.CellId.{CellId}
use Rattle.s2id_core.specs.CellId.{raw_of}
use Rattle.s2id_union.specs.NormalForm.{normal_form}
use Rattle.s2ix_bag_pairs.specs.declared.label.Label.{Label}
use Rattle.s2ix_bag_pairs.specs.declared.pair.Held.{Held}
use Rattle.s2ix_bag_pairs.specs.declared.pair.Pair.{Pair}
use Rattle.s2ix_bag_pairs.specs.Collection.{count_in}
use Rattle.s2ix_bag_pairs.specs.Label.{value_of}
use Rattle.s2ix_bag_pairs.specs.OfLabel.{held_of}
use Rattle.s2ix_table_walk.specs.Contents.{contents_at}
use Rattle.s2ix_table_walk.specs.LabelList.{label_list}
use Rattle.s2ix_table_walk.specs.Meeting.{meeting_of}
use Rattle.s2ix_edit_plan.specs.Region.{region_of}
use Rattle.s2ix_edit_plan.specs.State.{State}
use Rattle.s2ix_c_calls.specs.Asked.{AreCells, LacksUnion}
use Rattle.s2ix_c_calls.specs.declared.rows.Row.{Row}
use Rattle.s2ix_c_calls.specs.Status.{done, no_cell, no_label, no_room, out_of_memory}

-- a held pair as C sees it
abbrev pub row_of : Held → Row
row_of h = record { cell = raw_of h.pair.cell; label = value_of h.pair.label; count = h.count }

-- its label as C sees it
abbrev pub label_of : Held → ℕ
label_of h = value_of h.pair.label

-- a list, put to the front of a buffer, which stays as it was past the list; if the buffer is too short, it is as it was, and the number says
-- how long the list is
pub record IsPut {A : Type 0} (list : List A) (status number : ℕ) (old new : List A) : Type 0 where
  pub long : number ≡ length list
  pub put : status ≡ done → take number new ≡ list
  pub after : status ≡ done → drop number new ≡ drop number old
  pub short : status ≢ done → (status ≡ no_room) × (length old < number) × (new ≡ old)

-- a list, put to the front of a buffer as far as that has room for it. Past the list the buffer stays as it was; if the buffer is too short, it
-- is full of the list's front, and the number says how long the list is
pub record IsFilled {A : Type 0} (list : List A) (status number : ℕ) (old new : List A) : Type 0 where
  pub long : number ≡ length list
  pub put : status ≡ done → take number new ≡ list
  pub after : status ≡ done → drop number new ≡ drop number old
  pub short : status ≢ done → (status ≡ no_room) × (length old < number) × (new ≡ take (length old) list)

-- a list that is refused
abbrev pub IsRefused : {A : Type 0} → ℕ → ℕ → ℕ → List A → List A → Type 0
IsRefused why status number old new = (status ≡ why) × (number ≡ 0) × (new ≡ old)

-- a list in a buffer, or why there is none
abbrev pub Puts : {A : Type 0} → Result (List A) ℕ → ℕ → ℕ → List A → List A → Type 0
Puts (Ok list) status number old new = IsPut list status number old new
Puts (Err why) status number old new = IsRefused why status number old new

-- the same for a list that goes out as far as there is room
abbrev pub Fills : {A : Type 0} → Result (List A) ℕ → ℕ → ℕ → List A → List A → Type 0
Fills (Ok list) status number old new = IsFilled list status number old new
Fills (Err why) status number old new = IsRefused why status number old new

-- the same for a list in one piece, but want of memory may be told in place of it
abbrev pub Lists : {A : Type 0} → Result (List A) ℕ → ℕ → ℕ → List A → List A → Type 0
Lists (Ok list) status number old new = IsPut list status number old new ⊎ IsRefused out_of_memory status number old new
Lists (Err why) status number old new = IsRefused why status number old new

-- the same for a list that is gathered before it is put: if it has items, want of memory may be told in its place
abbrev pub PutsGathered : {A : Type 0} → Result (List A) ℕ → ℕ → ℕ → List A → List A → Type 0
PutsGathered (Ok list) status number old new = IsPut list status number old new ⊎ ((list ≢ []) × IsRefused out_of_memory status number old new)
PutsGathered (Err why) status number old new = IsRefused why status number old new

-- the pairs over a leaf
abbrev pub rows_over : Option CellId → State → Result (List Row) ℕ
rows_over (Some leaf) s = Ok (map row_of (contents_at (raw_of leaf) s.bag.held))
rows_over None s = Err no_cell

-- the cells of a label's region
abbrev pub region_cells : Option Label → State → Result (List ℕ) ℕ
region_cells (Some label) s = Ok (map raw_of (region_of label s.bag.held))
region_cells None s = Err no_label

-- the pairs that share a leaf with a union of cells
abbrev pub rows_met : List CellId → State → List Row
rows_met cells s = map row_of (meeting_of (normal_form cells) s.bag.held)

-- their labels, once and rising
abbrev pub labels_met : List CellId → State → List ℕ
labels_met cells s = map value_of (label_list (meeting_of (normal_form cells) s.bag.held))

-- the pairs that are met, from a place on, as many as a buffer has room for
abbrev pub rows_met_from : ℕ → ℕ → List CellId → State → List Row
rows_met_from from room cells s = map row_of (take room (drop from (meeting_of (normal_form cells) s.bag.held)))

-- whether a pair's count is asked for by numbers that are right, and the count
abbrev pub Counts : Result Pair ℕ → State → ℕ → ℕ → Type 0
Counts (Ok pair) s status count = (status ≡ done) × (count ≡ count_in s.bag.held pair)
Counts (Err why) s status count = (status ≡ why) × (count ≡ 0)

-- a list made of the union of the cells with these numbers, in a buffer, or why there is none. The union is made before the buffer is
-- tested, so want of memory may come in place of a buffer that is too short, but never in place of a number that is no cell's
abbrev pub ListsOf : {A : Type 0} → (List CellId → List A) → List ℕ → ℕ → ℕ → List A → List A → Type 0
ListsOf list ids status number old new =
    ((cells : List CellId) × AreCells ids cells × IsPut (list cells) status number old new)
    ⊎ (LacksUnion ids status number × (new ≡ old))

-- the same for a list that goes out as far as there is room
abbrev pub FillsOf : {A : Type 0} → (List CellId → List A) → List ℕ → ℕ → ℕ → List A → List A → Type 0
FillsOf list ids status number old new =
    ((cells : List CellId) × AreCells ids cells × IsFilled (list cells) status number old new)
    ⊎ (LacksUnion ids status number × (new ≡ old))

-- the pairs of a label
abbrev pub rows_with : Option Label → State → Result (List Row) ℕ
rows_with (Some label) s = Ok (map row_of (held_of label s.bag.held))
rows_with None s = Err no_label

-- the pairs from a place on, as many as a buffer has room for
abbrev pub rows_from : ℕ → ℕ → State → List Row
rows_from from room s = map row_of (take room (drop from s.bag.held))

-- these pairs are put to the buffer's front
abbrev pub PutsPage : ℕ → State → ℕ → ℕ → List Row → List Row → Type 0
PutsPage from s status number old new = (status ≡ done) × IsPut (rows_from from (length old) s) status number old new
