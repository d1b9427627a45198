-- The numbers that calls answer with.
use Rattle.std.specs.Prelude.{◌≡◌, ℕ, Option}
use Rattle.s2ix_edit_plan.specs.declared.errors.EditError.{EditError}
use Rattle.s2ix_edit_plan.specs.declared.errors.EditError.TheVariants.{JournalFull, NoSuchLabel, NotHeld, TooFine, NoSuchChange, BelowZero, NoChange, TooManyCopies, TooManyPairs, OutOfMemory}
use Rattle.s2ix_edit_plan.specs.Errors.{IsEditRefusal}

abbrev pub done : ℕ
done = 0

abbrev pub closed : ℕ
closed = 1

abbrev pub out_of_memory : ℕ
out_of_memory = 2

abbrev pub no_cell : ℕ
no_cell = 3

abbrev pub no_label : ℕ
no_label = 4

abbrev pub no_limits : ℕ
no_limits = 5

abbrev pub nothing_to_undo : ℕ
nothing_to_undo = 6

abbrev pub nothing_to_redo : ℕ
nothing_to_redo = 7

abbrev pub no_room : ℕ
no_room = 8

abbrev pub no_dump : ℕ
no_dump = 9

abbrev pub journal_full : ℕ
journal_full = 16

abbrev pub not_held : ℕ
not_held = 18

abbrev pub no_such_change : ℕ
no_such_change = 20

abbrev pub no_change : ℕ
no_change = 22

abbrev pub too_many_copies : ℕ
too_many_copies = 23

abbrev pub too_many_pairs : ℕ
too_many_pairs = 24

abbrev pub coarser : ℕ
coarser = 25

abbrev pub no_span : ℕ
no_span = 26

abbrev pub no_range : ℕ
no_range = 27

abbrev pub no_journal : ℕ
no_journal = 28

abbrev pub mismatch : ℕ
mismatch = 29

abbrev pub too_few_changes : ℕ
too_few_changes = 30

abbrev pub unsorted : ℕ
unsorted = 31

abbrev pub no_difference : ℕ
no_difference = 32

-- the status of a refused edit
abbrev pub edit_status : EditError → ℕ
edit_status JournalFull = journal_full
edit_status NoSuchLabel = 17
edit_status NotHeld = not_held
edit_status TooFine = 19
edit_status NoSuchChange = 20
edit_status BelowZero = 21
edit_status NoChange = no_change
edit_status TooManyCopies = 23
edit_status TooManyPairs = 24
edit_status OutOfMemory = out_of_memory

-- the status is that of the refusal, or of want of memory if it may come in its place
abbrev pub IsRefusal : ℕ → Option EditError → Type 0
IsRefusal status refusal = (error : EditError) × (status ≡ edit_status error) × IsEditRefusal error refusal
