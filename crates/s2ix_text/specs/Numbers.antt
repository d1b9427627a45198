-- The numbers that the lines of a journal write.
use Rattle.std.specs.Prelude.{ℕ, ◌&&◌, nat_le, if◌then◌else◌, Option, Some, None, List}
use Rattle.std.specs.Option.{option_and_then}
use Rattle.s2ix_text_parts.specs.Written.{number_written}

-- a count before or after a change: from 0 to the greatest that may be written
abbrev pub side_from : ℕ → ℕ → Option ℕ
side_from greatest n = if nat_le n greatest then Some n else None

-- the count before or after a change that a text writes
unfoldable pub side_written : ℕ → List ℕ → Option ℕ
side_written greatest text = option_and_then (side_from greatest) (number_written text)

-- how many entries a change has: from 1 to 2000000
abbrev pub size_from : ℕ → Option ℕ
size_from n = if nat_le 1 n && nat_le n 2000000 then Some n else None

-- the number of entries that a text writes
unfoldable pub size_written : List ℕ → Option ℕ
size_written text = option_and_then size_from (number_written text)
