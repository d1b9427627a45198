-- The lines of a journal, as they are read.
use Rattle.std.specs.Prelude.{ℕ, ◌==◌, ◌||◌, not, nat_lt, nat_le, false, if◌then◌else◌, codes, decimal, None, Option, Some, Result, Ok, Err, List, ◌∷◌, ◌++◌, length, map, flat_map}
use Rattle.std.specs.Option.{option_map}
use Rattle.s2id_core.specs.declared.cell_id.CellId.{CellId}
use Rattle.s2id_core.specs.CellId.{raw_of}
use Rattle.s2id_core.specs.Token.{canonical_token}
use Rattle.s2ix_bag_pairs.specs.Label.{value_of}
use Rattle.s2ix_bag_pairs.specs.Limits.{changes_limit, count_limit}
use Rattle.s2ix_bag_pairs.specs.declared.label.Label.{Label}
use Rattle.s2ix_bag_pairs.specs.declared.limits.Limits.{Limits}
use Rattle.s2ix_bag_pairs.specs.declared.pair.Entry.{Entry}
use Rattle.s2ix_bag_pairs.specs.declared.pair.Pair.{Pair}
use Rattle.s2ix_text.specs.declared.journal_error.JournalFault.{JournalFault}
use Rattle.s2ix_text.specs.declared.journal_error.JournalFault.TheVariants.{BadLine, BadToken, BadLabel, BadCount, NoDifference, Unsorted, TooManyCopies, TooManyChanges}
use Rattle.s2ix_text.specs.JournalFaults.{ReadSoFar, is_change}
use Rattle.s2ix_text.specs.Numbers.{side_written, size_written}
use Rattle.s2ix_text_parts.specs.Lines.{has_parts, last_of, part}
use Rattle.s2ix_text_parts.specs.Written.{cell_written, comes_before, label_written}

-- ---- the line of an entry

-- an entry, if its parts are written; else the fault of the first that isn't
abbrev pub entry_of_parts : Option CellId → Option Label → Option ℕ → Option ℕ → Result Entry JournalFault
entry_of_parts None label before after = Err BadToken
entry_of_parts (Some cell) None before after = Err BadLabel
entry_of_parts (Some cell) (Some label) None after = Err BadCount
entry_of_parts (Some cell) (Some label) (Some m) None = Err BadCount
entry_of_parts (Some cell) (Some label) (Some m) (Some n) =
    Ok (record { pair = record { cell = cell; label = label }; before = m; after = n })

-- the entry that a line writes with counts up to the greatest, or the first fault of its parts
unfoldable pub entry_written : ℕ → List ℕ → Result Entry JournalFault
entry_written greatest line =
    if has_parts 4 line
    then entry_of_parts
    (cell_written (part 0 line)) (label_written (part 1 line)) (side_written greatest (part 2 line)) (side_written greatest (part 3 line))
    else Err BadLine

-- an entry after the last of those above it in its group, or its first fault
abbrev pub entry_after : Limits → Option Pair → Result Entry JournalFault → Result Entry JournalFault
entry_after limits last (Err fault) = Err fault
entry_after limits last (Ok e) =
    if e.before == e.after then Err NoDifference
    else (if not (comes_before last (Some e.pair)) then Err Unsorted
    else (if nat_lt (count_limit limits) e.before || nat_lt (count_limit limits) e.after then Err TooManyCopies else Ok e))

-- the next entry of a group, by its line, or the first fault of the line
unfoldable pub next_entry : ℕ → Limits → Option Pair → List ℕ → Result Entry JournalFault
next_entry greatest limits last line = entry_after limits last (entry_written greatest line)

-- the last pair of a group so far
abbrev pub last_pair : List Entry → Option Pair
last_pair es = option_map (λ e. e.pair) (last_of es)

-- ---- the line that begins a group

-- the number of entries, if it is written
abbrev pub size_of_part : Option ℕ → Result ℕ JournalFault
size_of_part None = Err BadCount
size_of_part (Some n) = Ok n

-- one group more, if the limit allows it
abbrev pub size_after : Limits → ℕ → Result ℕ JournalFault → Result ℕ JournalFault
size_after limits groups (Err fault) = Err fault
size_after limits groups (Ok n) = if nat_le (changes_limit limits) groups then Err TooManyChanges else Ok n

-- how many entries the group has that a line begins, or the first fault of the line
unfoldable pub next_size : Limits → ℕ → List ℕ → Result ℕ JournalFault
next_size limits groups line = size_after limits groups (if is_change line then size_of_part (size_written (part 1 line)) else Err BadLine)

-- what stands above the first entry of a group
abbrev pub at_group : ℕ → ℕ → ReadSoFar
at_group size groups = record { wanted = size; last = None; groups = groups; over = false }

-- ---- the lines that are written, without their line feeds

unfoldable pub entry_text : Entry → List ℕ
entry_text e =
    canonical_token (raw_of e.pair.cell)
    ++ (codes " " ++ (decimal (value_of e.pair.label) ++ (codes " " ++ (decimal e.before ++ (codes " " ++ decimal e.after)))))

unfoldable pub change_text : ℕ → List ℕ
change_text size = codes "change " ++ decimal size

-- the lines of a group
abbrev pub group_lines : List Entry → List (List ℕ)
group_lines es = change_text (length es) ∷ map entry_text es

-- the lines of a journal with this header down to the last of these groups
abbrev pub lines_down_to : List ℕ → List (List Entry) → List (List ℕ)
lines_down_to header changes = header ∷ flat_map group_lines changes
