-- The lines of held pairs, as they are read.
use Rattle.std.specs.Prelude.{◌≡◌, ℕ, ◌^◌, ◌<◌, ◌≤◌, true, if◌then◌else◌, codes, decimal, None, Option, Some, Result, Ok, Err, List, [], ◌∷◌, ◌++◌, All, length, map}
use Rattle.std.specs.Option.{option_map}
use Rattle.s2id_core.specs.declared.cell_id.CellId.{CellId}
use Rattle.s2id_core.specs.CellId.{raw_of}
use Rattle.s2id_core.specs.Token.{canonical_token}
use Rattle.s2ix_bag_pairs.specs.Collection.{Collection, IsBag}
use Rattle.s2ix_bag_pairs.specs.Label.{value_of}
use Rattle.s2ix_bag_pairs.specs.declared.label.Label.{Label}
use Rattle.s2ix_bag_pairs.specs.declared.limits.Limits.{Limits}
use Rattle.s2ix_bag_pairs.specs.declared.pair.Held.{Held}
use Rattle.s2ix_bag_pairs.specs.declared.pair.Pair.{Pair}
use Rattle.s2ix_text.specs.declared.dump_error.DumpFault.{DumpFault}
use Rattle.s2ix_text.specs.declared.dump_error.DumpFault.TheVariants.{BadLine, BadToken, BadLabel, BadCount}
use Rattle.s2ix_text.specs.DumpFaults.{greatest_count, line_fault}
use Rattle.s2ix_text_parts.specs.LineFaults.{LineAt}
use Rattle.s2ix_text_parts.specs.Lines.{has_parts, last_of, lines_of, part}
use Rattle.s2ix_text_parts.specs.Written.{cell_written, count_written, label_written}

-- a held pair, if its parts are written; else the fault of the first that isn't
abbrev pub held_of_parts : Option CellId → Option Label → Option ℕ → Result Held DumpFault
held_of_parts None label count = Err BadToken
held_of_parts (Some cell) None count = Err BadLabel
held_of_parts (Some cell) (Some label) None = Err BadCount
held_of_parts (Some cell) (Some label) (Some n) = Ok (record { pair = record { cell = cell; label = label }; count = n })

-- the held pair that a line writes, with a count up to the greatest that may be written, or the first fault of its parts
unfoldable pub held_written : ℕ → List ℕ → Result Held DumpFault
held_written greatest line =
    if has_parts 3 line
    then held_of_parts (cell_written (part 0 line)) (label_written (part 1 line)) (count_written greatest (part 2 line))
    else Err BadLine

-- the line of a held pair, without its line feed
unfoldable pub line_text : Held → List ℕ
line_text h = canonical_token (raw_of h.pair.cell) ++ (codes " " ++ (decimal (value_of h.pair.label) ++ (codes " " ++ decimal h.count)))

-- the pairs of a dump with a header, within limits
pub record IsDumped (limits : Limits) (header : List ℕ) (hs : Collection) : Type 0 where
  pub bag : IsBag (record { limits = limits; held = hs })
  pub written : All (λ h. h.count ≤ greatest_count header) hs

-- the lines of a dump, from its header down to that of the last of these pairs
abbrev pub lines_down_to : List ℕ → Collection → List (List ℕ)
lines_down_to header hs = header ∷ map line_text hs

-- the last pair that is held
abbrev pub last_pair : Collection → Option Pair
last_pair hs = option_map (λ h. h.pair) (last_of hs)

-- the place of a line below them, with its line feed
abbrev pub place_below : Limits → List ℕ → Collection → List ℕ → LineAt
place_below limits header hs line = record { limits = limits; above = lines_down_to header hs; line = line; ended = true }

-- a line below those of some held pairs writes the next of them
pub record IsNext (limits : Limits) (header : List ℕ) (hs : Collection) (line : List ℕ) (h : Held) : Type 0 where
  pub text : line ≡ line_text h
  pub dumped : IsDumped limits header (hs ++ h ∷ [])
  pub sound : line_fault (place_below limits header hs line) ≡ None

-- the line of a held pair stands at the front of a text, in the common shape: its count is no greater than may be written, its label and
-- its count have nine digits or less, and after it there is as much as an end line has at the least
pub record IsCommonFront (greatest : ℕ) (text : List ℕ) (h : Held) (rest : List ℕ) : Type 0 where
  pub whole : text ≡ line_text h ++ 10 ∷ rest
  pub some : 1 ≤ h.count
  pub within_limit : h.count ≤ greatest
  pub count : h.count < 10 ^ 9
  pub label : value_of h.pair.label < 10 ^ 9
  pub long : 16 < length text
  pub after : 8 ≤ length rest

-- a text is a line, its line feed, and more
pub record IsCut (text line below : List ℕ) : Type 0 where
  pub whole : text ≡ line ++ 10 ∷ below
  pub lines : lines_of text ≡ line ∷ lines_of below
