-- Where the line of a text with a number stands.
use Rattle.std.specs.Prelude.{ℕ, ◌-◌, not, List, [], drop, slice_index_or, take}
use Rattle.s2ix_bag_pairs.specs.declared.limits.Limits.{Limits}
use Rattle.s2ix_text_parts.specs.LineFaults.{LineAt}
use Rattle.s2ix_text_parts.specs.Lines.{is_nil, lines_of}

-- the line with a number, counted from 1, without its line feed; nothing if the text has none
abbrev pub line_at : ℕ → List ℕ → List ℕ
line_at number text = slice_index_or (lines_of text) (number - 1) []

-- the lines above it
abbrev pub lines_above : ℕ → List ℕ → List (List ℕ)
lines_above number text = take (number - 1) (lines_of text)

-- where it stands
abbrev pub place_at : Limits → ℕ → List ℕ → LineAt
place_at limits number text = record {
  limits = limits;
  above = lines_above number text;
  line = line_at number text;
  ended = not (is_nil (drop number (lines_of text)));
}
