-- The lines of a script.
use Rattle.std.specs.Prelude.{ℕ, ◌==◌, if◌then◌else◌, List, [], ◌∷◌}

-- a byte at the front of the first line
abbrev pub with_first : ℕ → List (List ℕ) → List (List ℕ)
with_first byte [] = (byte ∷ []) ∷ []
with_first byte (line ∷ lines) = (byte ∷ line) ∷ lines

-- the bytes up to each line feed, and what is left after the last if it is not empty
abbrev pub script_lines : List ℕ → List (List ℕ)
script_lines [] = []
script_lines (byte ∷ text) = if byte == 10 then [] ∷ script_lines text else with_first byte (script_lines text)
