-- A script as it comes: the lines whose line feed has come, and what is held of the next one.
use Rattle.std.specs.Prelude.{ℕ, ◌==◌, nat_lt, if◌then◌else◌, Option, Some, None, List, [], ◌∷◌, ◌++◌, length}
use Rattle.s2ix_cli_script.specs.Meaning.{LONGEST}

-- the lines that end in a text, if `front` had come of the first of them before the text
abbrev pub ended_after : List ℕ → List ℕ → List (List ℕ)
ended_after front [] = []
ended_after front (byte ∷ text) = if byte == 10 then front ∷ ended_after [] text else ended_after (front ++ byte ∷ []) text

-- what has come, up to the end of the text, of the line that doesn't end in it
abbrev pub unended_after : List ℕ → List ℕ → List ℕ
unended_after front [] = front
unended_after front (byte ∷ text) = if byte == 10 then unended_after [] text else unended_after (front ++ byte ∷ []) text

-- the lines of a text whose line feed has come
abbrev pub ended_lines : List ℕ → List (List ℕ)
ended_lines text = ended_after [] text

-- what is held of a line: its bytes, or no more than that it is too long
abbrev pub kept_of : List ℕ → Option (List ℕ)
kept_of line = if nat_lt LONGEST (length line) then None else Some line

-- what is held once more bytes of the line have come
abbrev pub held_more : Option (List ℕ) → List ℕ → Option (List ℕ)
held_more None bytes = None
held_more (Some line) bytes = kept_of (line ++ bytes)
