-- The faults of a dump, line by line.
use Rattle.std.specs.Prelude.{◌≡◌, ℕ, Bool, not, ◌&&◌, ◌||◌, nat_lt, nat_le, is_none, codes, decimal, Option, Some, List, [], ◌∷◌, ◌++◌, length, drop, find, sum_by}
use Rattle.std.specs.List.{list_any}
use Rattle.std.specs.Option.{option_and_then}
use Rattle.std.specs.Str.{bytes_eq}
use Rattle.s2ix_bag_pairs.specs.declared.limits.Limits.{Limits}
use Rattle.s2ix_bag_pairs.specs.declared.pair.Pair.{Pair}
use Rattle.s2ix_bag_pairs.specs.Limits.{count_limit, pairs_limit}
use Rattle.s2ix_text.specs.declared.dump_error.DumpError.{DumpError}
use Rattle.s2ix_text.specs.declared.dump_error.DumpError.TheVariants.{At, OutOfMemory}
use Rattle.s2ix_text.specs.declared.dump_error.DumpFault.{DumpFault}
use Rattle.s2ix_text.specs.declared.dump_error.DumpFault.TheVariants.{Truncated, BadHeader, BadEnd, BadLine, BadToken, BadLabel, BadCount, Unsorted, TooManyCopies, TooManyPairs, TrailingBytes}
use Rattle.s2ix_text_parts.specs.LineFaults.{LineAt, IsFromLine, fault_below, header_of}
use Rattle.s2ix_text_parts.specs.Lines.{has_parts, is_nil, last_of, lines_of, part}
use Rattle.s2ix_text_parts.specs.Written.{cell_written, comes_before, count_of_line, count_written, label_written, pair_written}
use Rattle.s2ix_text_write.specs.Version.{dump_version, greatest_below}

-- ---- where a line stands

-- a line with the first part `end`
abbrev pub is_end : List ℕ → Bool
is_end line = bytes_eq (part 0 line) (codes "end")

-- the first line: the header
abbrev pub is_first : LineAt → Bool
is_first p = is_nil p.above

-- the lines above but for the header: those of pairs, and the end line after them
abbrev pub pairs_above : LineAt → List (List ℕ)
pairs_above p = drop 1 p.above

-- after the end line
abbrev pub is_over : LineAt → Bool
is_over p = list_any is_end (pairs_above p)

-- between the header and the end line, that among them
abbrev pub is_inner : LineAt → Bool
is_inner p = not (is_first p) && not (is_over p)

-- a line that is to write a pair
abbrev pub is_of_pair : LineAt → Bool
is_of_pair p = is_inner p && not (is_end p.line)

-- the greatest count that is written below a header: that of the version that it names
abbrev pub greatest_count : List ℕ → ℕ
greatest_count header = greatest_below (dump_version header)

-- the sum of their counts
abbrev pub copies_above : LineAt → ℕ
copies_above p = sum_by (count_of_line (greatest_count (header_of p))) (pairs_above p)

-- the last pair above, if there is one
abbrev pub pair_before : LineAt → Option Pair
pair_before p = option_and_then pair_written (last_of (pairs_above p))

-- the end line of so many pairs and copies: `end PAIRS COPIES`
abbrev pub end_text : ℕ → ℕ → List ℕ
end_text pairs copies = codes "end " ++ (decimal pairs ++ (codes " " ++ decimal copies))

-- ---- the faults

-- when each fault is due
unfoldable pub is_due : LineAt → DumpFault → Bool
is_due p Truncated = not (is_over p) && not p.ended
is_due p BadHeader = is_first p && is_none (dump_version p.line)
is_due p BadEnd = is_inner p && is_end p.line && not (bytes_eq p.line (end_text (length (pairs_above p)) (copies_above p)))
is_due p BadLine = is_of_pair p && not (has_parts 3 p.line)
is_due p BadToken = is_of_pair p && is_none (cell_written (part 0 p.line))
is_due p BadLabel = is_of_pair p && is_none (label_written (part 1 p.line))
is_due p BadCount = is_of_pair p && is_none (count_written (greatest_count (header_of p)) (part 2 p.line))
is_due p Unsorted = is_of_pair p && not (comes_before (pair_before p) (pair_written p.line))
is_due p TooManyCopies = is_of_pair p && nat_lt (count_limit p.limits) (count_of_line (greatest_count (header_of p)) p.line)
is_due p TooManyPairs = is_of_pair p && nat_le (pairs_limit p.limits) (length (pairs_above p))
is_due p TrailingBytes = is_over p && (p.ended || not (is_nil p.line))

-- the faults, in the order in which they decide on one line
abbrev pub dump_faults : List DumpFault
dump_faults =
    Truncated ∷ BadHeader ∷ BadEnd ∷ BadLine ∷ BadToken ∷ BadLabel ∷ BadCount ∷ Unsorted ∷ TooManyCopies ∷ TooManyPairs ∷ TrailingBytes ∷ []

-- the fault of a line: the first that is due
unfoldable pub line_fault : LineAt → Option DumpFault
line_fault p = find (is_due p) dump_faults

-- the first fault of a text with the number of its line; none if the text is a dump within the limits
unfoldable pub dump_fault : Limits → List ℕ → Option (ℕ × DumpFault)
dump_fault limits text = fault_below line_fault limits [] (lines_of text)

-- ---- what a reader answers

-- the error is the fault that is due, or memory was wanted if none is due, or one after the first line
abbrev pub IsDumpError : DumpError → Option (ℕ × DumpFault) → Type 0
IsDumpError (At line fault) found = found ≡ Some (line, fault)
IsDumpError OutOfMemory found = IsFromLine 2 found
