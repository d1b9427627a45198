-- The names that refused lines are answered by.
use Rattle.std.specs.Prelude.{ℕ, List, codes}
use Rattle.s2ix_edit_plan.specs.declared.errors.EditError.{EditError}
use Rattle.s2ix_edit_plan.specs.declared.errors.EditError.TheVariants as edit
use Rattle.s2ix_edit_plan.specs.declared.errors.RedoError.{RedoError}
use Rattle.s2ix_edit_plan.specs.declared.errors.RedoError.TheVariants as redo
use Rattle.s2ix_edit_plan.specs.declared.errors.UndoError.{UndoError}
use Rattle.s2ix_edit_plan.specs.declared.errors.UndoError.TheVariants as undo

-- the name by which `at` is refused if its cell is no leaf
unfoldable pub not_leaf_name : List ℕ
not_leaf_name = codes "NotLeaf"

-- the name of an edit's refusal; want of memory is no answer of a line, and has a name all the same
abbrev pub edit_error_name : EditError → List ℕ
edit_error_name edit.JournalFull = codes "JournalFull"
edit_error_name edit.NoSuchLabel = codes "NoSuchLabel"
edit_error_name edit.NotHeld = codes "NotHeld"
edit_error_name edit.TooFine = codes "TooFine"
edit_error_name edit.NoSuchChange = codes "NoSuchChange"
edit_error_name edit.BelowZero = codes "BelowZero"
edit_error_name edit.NoChange = codes "NoChange"
edit_error_name edit.TooManyCopies = codes "TooManyCopies"
edit_error_name edit.TooManyPairs = codes "TooManyPairs"
edit_error_name edit.OutOfMemory = codes "OutOfMemory"

-- the name of an undo's refusal, likewise
abbrev pub undo_error_name : UndoError → List ℕ
undo_error_name undo.NothingToUndo = codes "NothingToUndo"
undo_error_name undo.OutOfMemory = codes "OutOfMemory"

-- the name of a redo's refusal, likewise
abbrev pub redo_error_name : RedoError → List ℕ
redo_error_name redo.NothingToRedo = codes "NothingToRedo"
redo_error_name redo.OutOfMemory = codes "OutOfMemory"
