-- What the fields of a line name.
use Rattle.std.specs.Prelude.{◌≡◌, ℕ, Bool, true, false, Option, Some, None, Result, Ok, Err, List, [], ◌∷◌}
use Rattle.s2id_core.specs.declared.cell_id.CellId.{CellId}
use Rattle.s2id_core.specs.Spelled.{cell_spelled}
use Rattle.s2id_union.specs.NormalForm.{normal_form}
use Rattle.s2ix_bag_pairs.specs.declared.label.Label.{Label}
use Rattle.s2ix_bag_pairs.specs.declared.pair.Pair.{Pair}
use Rattle.s2ix_edit_plan.specs.declared.edit.Edit.{Edit}
use Rattle.s2ix_edit_plan.specs.declared.edit.Edit.TheVariants.{Add, AddUnion, DropLabel, Relabel, Grow, Normalise, Remove, Revert}
use Rattle.s2ix_cli_words.specs.Fields.{change_number_spelled, label_spelled, copies_spelled, level_spelled}
use Rattle.s2ix_cli_script.specs.declared.line_fault.LineError.{LineError}
use Rattle.s2ix_cli_script.specs.declared.line_fault.LineError.TheVariants.{Fault, OutOfMemory}
use Rattle.s2ix_cli_script.specs.declared.line_fault.LineFault.{LineFault}
use Rattle.s2ix_cli_script.specs.declared.line_fault.LineFault.TheVariants.{BadArguments, BadToken, BadLabel, BadCount, BadLevel, BadNumber}

-- what is made of a meaning, if there is one
abbrev pub map_ok : {A B : Type 0} → (A → B) → Result A LineFault → Result B LineFault
map_ok f (Ok a) = Ok (f a)
map_ok f (Err fault) = Err fault

-- what follows from a meaning, if there is one
abbrev pub then_ok : {A B : Type 0} → (A → Result B LineFault) → Result A LineFault → Result B LineFault
then_ok f (Ok a) = f a
then_ok f (Err fault) = Err fault

-- ---- what fields name

-- one field, no more
abbrev pub one_field : List (List ℕ) → Result (List ℕ) LineFault
one_field (field ∷ []) = Ok field
one_field fields = Err BadArguments

-- two fields, no more
abbrev pub two_fields : List (List ℕ) → Result (List ℕ × List ℕ) LineFault
two_fields (first ∷ second ∷ []) = Ok (first, second)
two_fields fields = Err BadArguments

-- a cell
abbrev pub cell_with : Option CellId → Result CellId LineFault
cell_with None = Err BadToken
cell_with (Some cell) = Ok cell

-- a label
abbrev pub label_with : Option Label → Result Label LineFault
label_with None = Err BadLabel
label_with (Some label) = Ok label

-- a pair and a number of copies, if fields name its cell, its label and the copies; the first that does not decides
abbrev pub pair_with : Option CellId → Option Label → Option ℕ → Result (Pair × ℕ) LineFault
pair_with None label copies = Err BadToken
pair_with (Some cell) None copies = Err BadLabel
pair_with (Some cell) (Some label) None = Err BadCount
pair_with (Some cell) (Some label) (Some n) = Ok (record { cell = cell; label = label }, n)

-- the fields TOKEN LABEL, with one copy, or TOKEN LABEL COPIES
abbrev pub pair_named : List (List ℕ) → Result (Pair × ℕ) LineFault
pair_named (token ∷ label ∷ []) = pair_with (cell_spelled token) (label_spelled label) (Some 1)
pair_named (token ∷ label ∷ copies ∷ []) = pair_with (cell_spelled token) (label_spelled label) (copies_spelled copies)
pair_named fields = Err BadArguments

-- the one field TOKEN
abbrev pub cell_named : List (List ℕ) → Result CellId LineFault
cell_named fields = then_ok (λ token. cell_with (cell_spelled token)) (one_field fields)

-- the one field LABEL
abbrev pub label_named : List (List ℕ) → Result Label LineFault
label_named fields = then_ok (λ label. label_with (label_spelled label)) (one_field fields)

-- two labels, if fields name both; the first that does not decides
abbrev pub labels_with : Option Label → Option Label → Result (Label × Label) LineFault
labels_with None second = Err BadLabel
labels_with (Some first) None = Err BadLabel
labels_with (Some first) (Some second) = Ok (first, second)

-- the two fields LABEL LABEL
abbrev pub labels_named : List (List ℕ) → Result (Label × Label) LineFault
labels_named fields = then_ok (λ both. labels_with (label_spelled both.0) (label_spelled both.1)) (two_fields fields)

-- the edits of `add`, `remove`, `drop`, `relabel` and `normal`
abbrev pub add_named : List (List ℕ) → Result Edit LineFault
add_named fields = map_ok (λ named. Add named.0 named.1) (pair_named fields)

abbrev pub remove_named : List (List ℕ) → Result Edit LineFault
remove_named fields = map_ok (λ named. Remove named.0 named.1) (pair_named fields)

abbrev pub drop_named : List (List ℕ) → Result Edit LineFault
drop_named fields = map_ok DropLabel (label_named fields)

abbrev pub relabel_named : List (List ℕ) → Result Edit LineFault
relabel_named fields = map_ok (λ named. Relabel named.0 named.1) (labels_named fields)

abbrev pub normal_named : List (List ℕ) → Result Edit LineFault
normal_named fields = map_ok Normalise (label_named fields)

-- the edit of `grow`, if fields name its label and its level; the first that does not decides
abbrev pub grow_with : Option Label → Option ℕ → Result Edit LineFault
grow_with None level = Err BadLabel
grow_with (Some label) None = Err BadLevel
grow_with (Some label) (Some level) = Ok (Grow label level)

-- the two fields LABEL LEVEL
abbrev pub grow_named : List (List ℕ) → Result Edit LineFault
grow_named fields = then_ok (λ both. grow_with (label_spelled both.0) (level_spelled both.1)) (two_fields fields)

-- the edit of `revert`, if a field names the number of a change
abbrev pub revert_with : Option ℕ → Result Edit LineFault
revert_with None = Err BadNumber
revert_with (Some number) = Ok (Revert number)

-- the one field NUMBER
abbrev pub revert_named : List (List ℕ) → Result Edit LineFault
revert_named fields = then_ok (λ number. revert_with (change_number_spelled number)) (one_field fields)

-- ---- the cells that fields name

-- a cell before others; the first field that names none decides
abbrev pub cells_with : Result CellId LineFault → Result (List CellId) LineFault → Result (List CellId) LineFault
cells_with (Err fault) cells = Err fault
cells_with (Ok cell) (Err fault) = Err fault
cells_with (Ok cell) (Ok cells) = Ok (cell ∷ cells)

-- the cells that the fields TOKEN.. name
abbrev pub cells_named : List (List ℕ) → Result (List CellId) LineFault
cells_named [] = Ok []
cells_named (token ∷ tokens) = cells_with (cell_with (cell_spelled token)) (cells_named tokens)

-- their normal union
abbrev pub union_of : List (List ℕ) → Result (List CellId) LineFault
union_of tokens = map_ok normal_form (cells_named tokens)

-- the same, of the fields TOKEN.., one at least
abbrev pub union_named : List (List ℕ) → Result (List CellId) LineFault
union_named [] = Err BadArguments
union_named (token ∷ tokens) = union_of (token ∷ tokens)

-- a union that is added under a label
abbrev pub add_union_with : Result Label LineFault → Result (List CellId) LineFault → Result Edit LineFault
add_union_with (Ok label) union = map_ok (λ cells. AddUnion cells label) union
add_union_with (Err fault) union = Err fault

-- the fields LABEL TOKEN.., one token at least
abbrev pub add_union_named : List (List ℕ) → Result Edit LineFault
add_union_named (label ∷ token ∷ tokens) = add_union_with (label_with (label_spelled label)) (union_of (token ∷ tokens))
add_union_named fields = Err BadArguments

-- ---- where memory may be wanted

-- whether an edit adds a union of cells
abbrev pub is_add_union : Edit → Bool
is_add_union (AddUnion union label) = true
is_add_union edit = false

-- whether there is a meaning, and this holds of it
abbrev pub is_ok_with : {A : Type 0} → (A → Bool) → Result A LineFault → Bool
is_ok_with wants (Ok asked) = wants asked
is_ok_with wants (Err fault) = false

-- the error is the fault of the meaning, or memory was wanted for a meaning that may want it
abbrev pub IsFault : {A : Type 0} → (A → Bool) → LineError → Result A LineFault → Type 0
IsFault wants (Fault fault) meaning = meaning ≡ Err fault
IsFault wants OutOfMemory meaning = is_ok_with wants meaning ≡ true

-- the answer is the meaning, or memory was wanted for a meaning that may want it
abbrev pub Means : {A : Type 0} → (A → Bool) → Result A LineError → Result A LineFault → Type 0
Means wants (Ok asked) meaning = meaning ≡ Ok asked
Means wants (Err error) meaning = IsFault wants error meaning
