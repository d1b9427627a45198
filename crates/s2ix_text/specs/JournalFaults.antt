-- The faults of a journal, line by line.
use Rattle.std.specs.Prelude.{◌≡◌, ℕ, zero, suc, ◌+◌, ◌==◌, Bool, true, false, not, ◌&&◌, ◌||◌, nat_lt, nat_le, is_none, if◌then◌else◌, codes, decimal, Option, Some, None, List, [], ◌∷◌, ◌++◌, drop, find}
use Rattle.std.specs.List.{fold}
use Rattle.std.specs.Option.{unwrap_or}
use Rattle.std.specs.Str.{bytes_eq}
use Rattle.s2ix_bag_pairs.specs.declared.limits.Limits.{Limits}
use Rattle.s2ix_bag_pairs.specs.declared.pair.Pair.{Pair}
use Rattle.s2ix_bag_pairs.specs.Limits.{changes_limit, count_limit}
use Rattle.s2ix_text.specs.declared.journal_error.JournalError.{JournalError}
use Rattle.s2ix_text.specs.declared.journal_error.JournalError.TheVariants.{At, OutOfMemory}
use Rattle.s2ix_text.specs.declared.journal_error.JournalFault.{JournalFault}
use Rattle.s2ix_text.specs.declared.journal_error.JournalFault.TheVariants.{Truncated, BadHeader, BadEnd, BadLine, BadToken, BadLabel, BadCount, NoDifference, Unsorted, TooManyCopies, TooManyChanges, TrailingBytes}
use Rattle.s2ix_text.specs.Numbers.{side_written, size_written}
use Rattle.s2ix_text_parts.specs.LineFaults.{LineAt, IsFromLine, fault_below, header_of}
use Rattle.s2ix_text_parts.specs.Lines.{has_parts, is_nil, lines_of, part}
use Rattle.s2ix_text_parts.specs.Written.{cell_written, comes_before, label_written, pair_written}
use Rattle.s2ix_text_write.specs.Version.{greatest_below, journal_version}

-- ---- where a line stands

-- a line with the first part `end`
abbrev pub is_end : List ℕ → Bool
is_end line = bytes_eq (part 0 line) (codes "end")

-- `change` and one part more
abbrev pub is_change : List ℕ → Bool
is_change line = has_parts 2 line && bytes_eq (part 0 line) (codes "change")

-- what is known above a line: how many entries its group still wants, none outside a group; the pair of the entry above it in its group; how
-- many groups began; and whether the end line was there
pub record ReadSoFar : Type 0 where
  pub wanted : ℕ
  pub last : Option Pair
  pub groups : ℕ
  pub over : Bool

-- after the header
abbrev pub at_start : ReadSoFar
at_start = record { wanted = 0; last = None; groups = 0; over = false }

-- after one line more: an entry, if some are wanted, else the end line or the line that begins a group
abbrev pub after_next : ℕ → ReadSoFar → List ℕ → ReadSoFar
after_next (suc wanted) s line = record { wanted = wanted; last = pair_written line; groups = s.groups; over = s.over }
after_next zero s line =
    if is_end line then record { wanted = 0; last = None; groups = s.groups; over = true }
    else record { wanted = unwrap_or (size_written (part 1 line)) 0; last = None; groups = s.groups + 1; over = s.over }

abbrev pub after_line : ReadSoFar → List ℕ → ReadSoFar
after_line s line = after_next s.wanted s line

-- after some lines, the header first
unfoldable pub read_above : List (List ℕ) → ReadSoFar
read_above above = fold after_line at_start (drop 1 above)

-- the first line: the header
abbrev pub is_first : LineAt → Bool
is_first p = is_nil p.above

-- after the end line
abbrev pub is_over : LineAt → Bool
is_over p = (read_above p.above).over

-- between the header and the end line, that among them
abbrev pub is_inner : LineAt → Bool
is_inner p = not (is_first p) && not (is_over p)

-- a line outside a group: it ends the text or begins a group
abbrev pub is_outside : LineAt → Bool
is_outside p = is_inner p && ((read_above p.above).wanted == 0)

-- a line that is to begin a group
abbrev pub is_of_group : LineAt → Bool
is_of_group p = is_outside p && not (is_end p.line)

-- a line that is to write an entry
abbrev pub is_of_entry : LineAt → Bool
is_of_entry p = is_inner p && not ((read_above p.above).wanted == 0)

-- the greatest count below a header: that of the version that it names
abbrev pub greatest_count : List ℕ → ℕ
greatest_count header = greatest_below (journal_version header)

-- the counts before and after that a line writes, each up to the greatest of its header
abbrev pub before_written : LineAt → Option ℕ
before_written p = side_written (greatest_count (header_of p)) (part 2 p.line)

abbrev pub after_written : LineAt → Option ℕ
after_written p = side_written (greatest_count (header_of p)) (part 3 p.line)

-- the same; 0 if it writes none
abbrev pub before_of_line : LineAt → ℕ
before_of_line p = unwrap_or (before_written p) 0

abbrev pub after_of_line : LineAt → ℕ
after_of_line p = unwrap_or (after_written p) 0

-- the end line of so many groups: `end CHANGES`
abbrev pub end_text : ℕ → List ℕ
end_text groups = codes "end " ++ decimal groups

-- ---- the faults

-- when each fault is due
unfoldable pub is_due : LineAt → JournalFault → Bool
is_due p Truncated = not (is_over p) && not p.ended
is_due p BadHeader = is_first p && is_none (journal_version p.line)
is_due p BadEnd = is_outside p && is_end p.line && not (bytes_eq p.line (end_text (read_above p.above).groups))
is_due p BadLine = (is_of_group p && not (is_change p.line)) || (is_of_entry p && not (has_parts 4 p.line))
is_due p BadToken = is_of_entry p && is_none (cell_written (part 0 p.line))
is_due p BadLabel = is_of_entry p && is_none (label_written (part 1 p.line))
is_due p BadCount =
    (is_of_group p && is_none (size_written (part 1 p.line)))
    || (is_of_entry p && (is_none (before_written p) || is_none (after_written p)))
is_due p NoDifference = is_of_entry p && (before_of_line p == after_of_line p)
is_due p Unsorted = is_of_entry p && not (comes_before (read_above p.above).last (pair_written p.line))
is_due p TooManyCopies =
    is_of_entry p && (nat_lt (count_limit p.limits) (before_of_line p) || nat_lt (count_limit p.limits) (after_of_line p))
is_due p TooManyChanges = is_of_group p && nat_le (changes_limit p.limits) (read_above p.above).groups
is_due p TrailingBytes = is_over p && (p.ended || not (is_nil p.line))

-- the faults, in the order in which they decide on one line
abbrev pub journal_faults : List JournalFault
journal_faults =
    Truncated ∷ BadHeader ∷ BadEnd ∷ BadLine ∷ BadToken ∷ BadLabel ∷ BadCount ∷ NoDifference ∷ Unsorted ∷ TooManyCopies ∷ TooManyChanges
    ∷ TrailingBytes ∷ []

-- the fault of a line: the first that is due
unfoldable pub line_fault : LineAt → Option JournalFault
line_fault p = find (is_due p) journal_faults

-- the first fault of a text with the number of its line; none if the text is a journal within the limits
unfoldable pub journal_fault : Limits → List ℕ → Option (ℕ × JournalFault)
journal_fault limits text = fault_below line_fault limits [] (lines_of text)

-- ---- what a reader answers

-- the error is the fault that is due, or memory was wanted if none is due, or one after the first line
abbrev pub IsJournalError : JournalError → Option (ℕ × JournalFault) → Type 0
IsJournalError (At line fault) found = found ≡ Some (line, fault)
IsJournalError OutOfMemory found = IsFromLine 2 found
