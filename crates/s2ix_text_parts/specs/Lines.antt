-- A text as lines, and a line as parts.
use Rattle.std.specs.Prelude.{ℕ, ◌==◌, Bool, true, false, not, ◌&&◌, Option, Some, None, List, [], ◌∷◌, length, slice_index_or}
use Rattle.std.specs.List.{list_all, slice_split}

-- whether a list is empty
abbrev pub is_nil : {A : Type 0} → List A → Bool
is_nil [] = true
is_nil (x ∷ xs) = false

-- the last of a list, if it has any
abbrev pub last_of : {A : Type 0} → List A → Option A
last_of [] = None
last_of (x ∷ []) = Some x
last_of (x ∷ (y ∷ xs)) = last_of (y ∷ xs)

-- a text cut at each byte of this number
abbrev pub pieces_at : ℕ → List ℕ → List (List ℕ)
pieces_at end text = slice_split (λ byte. byte == end) text

-- a text cut at each line feed: its lines, and what is left after the last line feed
unfoldable pub lines_of : List ℕ → List (List ℕ)
lines_of text = pieces_at 10 text

-- a line cut at each space
unfoldable pub parts_of : List ℕ → List (List ℕ)
parts_of line = pieces_at 32 line

-- the part of a line at this place, counted from 0; nothing if there is none
abbrev pub part : ℕ → List ℕ → List ℕ
part k line = slice_index_or (parts_of line) k []

-- whether a line has this many parts, none of them empty
abbrev pub has_parts : ℕ → List ℕ → Bool
has_parts n line = (length (parts_of line) == n) && list_all (λ text. not (is_nil text)) (parts_of line)
