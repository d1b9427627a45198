-- What a line of a script asks for.
use Rattle.std.specs.Prelude.{ℕ, ◌==◌, nat_lt, if◌then◌else◌, Bool, true, false, codes, Option, Some, None, Result, Ok, Err, List, [], ◌∷◌, length, slice_index}
use Rattle.std.specs.Str.{bytes_eq}
use Rattle.s2ix_cli_words.specs.Fields.{fields_of}
use Rattle.s2ix_cli_script.specs.declared.line_fault.LineFault.{LineFault}
use Rattle.s2ix_cli_script.specs.declared.line_fault.LineFault.TheVariants.{LineTooLong, BadCommand, BadArguments}
use Rattle.s2ix_cli_script.specs.Named.{add_named, add_union_named, cell_named, drop_named, grow_named, is_add_union, label_named, labels_named, map_ok, normal_named, relabel_named, remove_named, revert_named, union_named}
use Rattle.s2ix_cli_script.specs.declared.instruction.Instruction.{Instruction}
use Rattle.s2ix_cli_script.specs.declared.instruction.Instruction.TheVariants as asks
use Rattle.s2ix_cli_script.specs.declared.words.Word.{Word}
use Rattle.s2ix_cli_script.specs.declared.words.Word.TheVariants as word

-- the longest line that is read, in bytes
abbrev pub LONGEST : ℕ
LONGEST = 65536

-- ---- what else fields ask for

-- no field
abbrev pub bare : Instruction → List (List ℕ) → Result Instruction LineFault
bare instruction [] = Ok instruction
bare instruction (field ∷ fields) = Err BadArguments

-- what `common` and `only` ask for
abbrev pub common_named : List (List ℕ) → Result Instruction LineFault
common_named fields = map_ok (λ named. asks.Common named.0 named.1) (labels_named fields)

abbrev pub only_named : List (List ℕ) → Result Instruction LineFault
only_named fields = map_ok (λ named. asks.Only named.0 named.1) (labels_named fields)

-- ---- the words

-- the words of a script
abbrev pub words : List (List ℕ × Word)
words =
    (codes "add", word.Add)
    ∷ (codes "remove", word.Remove)
    ∷ (codes "addunion", word.AddUnion)
    ∷ (codes "drop", word.Drop)
    ∷ (codes "relabel", word.Relabel)
    ∷ (codes "grow", word.Grow)
    ∷ (codes "normal", word.Normal)
    ∷ (codes "revert", word.Revert)
    ∷ (codes "undo", word.Undo)
    ∷ (codes "redo", word.Redo)
    ∷ (codes "forget", word.Forget)
    ∷ (codes "at", word.At)
    ∷ (codes "meet", word.Meet)
    ∷ (codes "labels", word.Labels)
    ∷ (codes "ranges", word.Ranges)
    ∷ (codes "region", word.Region)
    ∷ (codes "common", word.Common)
    ∷ (codes "only", word.Only)
    ∷ (codes "path", word.Path)
    ∷ (codes "neighbors", word.Neighbors)
    ∷ (codes "face", word.Face)
    ∷ (codes "dump", word.Dump)
    ∷ (codes "journal", word.Journal)
    ∷ (codes "export", word.Export)
    ∷ []

-- the word of these that a text is: the first entry with that text decides
abbrev pub word_in : List (List ℕ × Word) → List ℕ → Option Word
word_in [] text = None
word_in (entry ∷ entries) text = if bytes_eq text entry.0 then Some entry.1 else word_in entries text

-- what a word and the fields after it ask for
abbrev pub asked_for : Word → List (List ℕ) → Result Instruction LineFault
asked_for word.Add fields = map_ok asks.Edit (add_named fields)
asked_for word.Remove fields = map_ok asks.Edit (remove_named fields)
asked_for word.AddUnion fields = map_ok asks.Edit (add_union_named fields)
asked_for word.Drop fields = map_ok asks.Edit (drop_named fields)
asked_for word.Relabel fields = map_ok asks.Edit (relabel_named fields)
asked_for word.Grow fields = map_ok asks.Edit (grow_named fields)
asked_for word.Normal fields = map_ok asks.Edit (normal_named fields)
asked_for word.Revert fields = map_ok asks.Edit (revert_named fields)
asked_for word.Undo fields = bare asks.Undo fields
asked_for word.Redo fields = bare asks.Redo fields
asked_for word.Forget fields = bare asks.Forget fields
asked_for word.At fields = map_ok asks.At (cell_named fields)
asked_for word.Meet fields = map_ok asks.Meet (union_named fields)
asked_for word.Labels fields = map_ok asks.Labels (union_named fields)
asked_for word.Ranges fields = bare asks.Ranges fields
asked_for word.Region fields = map_ok asks.Region (label_named fields)
asked_for word.Common fields = common_named fields
asked_for word.Only fields = only_named fields
asked_for word.Path fields = map_ok asks.Path (cell_named fields)
asked_for word.Neighbors fields = map_ok asks.Neighbors (cell_named fields)
asked_for word.Face fields = map_ok asks.Face (cell_named fields)
asked_for word.Dump fields = bare asks.Dump fields
asked_for word.Journal fields = bare asks.Journal fields
asked_for word.Export fields = bare asks.Export fields

-- the same, if a text is a word
abbrev pub asked_where : Option Word → List (List ℕ) → Result Instruction LineFault
asked_where None fields = Err BadCommand
asked_where (Some named) fields = asked_for named fields

-- what a text and the fields after it ask for
abbrev pub asked_by : List ℕ → List (List ℕ) → Result Instruction LineFault
asked_by text fields = asked_where (word_in words text) fields

-- what the fields of a line ask for: nothing if there are none, or the first begins with `#`
abbrev pub meaning_of_fields : List (List ℕ) → Result (Option Instruction) LineFault
meaning_of_fields [] = Ok None
meaning_of_fields (word ∷ fields) = if slice_index word 0 == 35 then Ok None else map_ok Some (asked_by word fields)

-- what a line asks for
unfoldable pub meaning_of : List ℕ → Result (Option Instruction) LineFault
meaning_of line = if nat_lt LONGEST (length line) then Err LineTooLong else meaning_of_fields (fields_of line)

-- ---- where memory may be wanted

-- whether an instruction is on a union of cells
abbrev pub is_on_union : Instruction → Bool
is_on_union (asks.Edit edit) = is_add_union edit
is_on_union (asks.Meet target) = true
is_on_union (asks.Labels target) = true
is_on_union other = false

-- whether a line asks for such an instruction
abbrev pub asks_on_union : Option Instruction → Bool
asks_on_union None = false
asks_on_union (Some instruction) = is_on_union instruction
