-- The first fault of a text, from the faults that each line may have.
use Rattle.std.specs.Prelude.{ℕ, ◌+◌, ◌≤◌, Bool, not, Option, Some, None, List, [], ◌∷◌, ◌++◌, length, slice_index_or}
use Rattle.std.specs.Option.{option_map, option_or}
use Rattle.s2ix_bag_pairs.specs.declared.limits.Limits.{Limits}
use Rattle.s2ix_text_parts.specs.Lines.{is_nil}

-- where a line stands: under which limits, below which lines, and whether a line feed ends it
pub record LineAt : Type 0 where
  pub limits : Limits
  pub above : List (List ℕ)
  pub line : List ℕ
  pub ended : Bool

-- the header above a line: the first line of its text; nothing if no line stands above
abbrev pub header_of : LineAt → List ℕ
header_of p = slice_index_or p.above 0 []

-- the first fault of some lines, with the number of its line, counted from 1; `fault` is that of one line, and `above` stands above them
unfoldable pub fault_below : {F : Type 0} → (LineAt → Option F) → Limits → List (List ℕ) → List (List ℕ) → Option (ℕ × F)
fault_below fault limits above [] = None
fault_below fault limits above (line ∷ lines) =
    option_or
    (option_map (λ it. (length above + 1, it)) (fault (record { limits = limits; above = above; line = line; ended = not (is_nil lines) })))
    (fault_below fault limits (above ++ line ∷ []) lines)

-- no fault is due, or one in this line or a later one
abbrev pub IsFromLine : {F : Type 0} → ℕ → Option (ℕ × F) → Type 0
IsFromLine line None = Unit {0}
IsFromLine line (Some found) = line ≤ found.0
