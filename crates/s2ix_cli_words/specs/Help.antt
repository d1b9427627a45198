-- What help tells of a limit.
use Rattle.std.specs.Prelude.{ℕ, ◌++◌, codes, decimal}
use Rattle.clap.specs.Words.{Text}

-- the range of a limit
abbrev pub range_of : ℕ → Text
range_of greatest = codes "1 to " ++ decimal greatest

-- what a limit bounds, its range and its default, the greatest of the range
abbrev pub limit_text : Text → ℕ → Text
limit_text what greatest = what ++ (codes ": " ++ (range_of greatest ++ (codes " [default: " ++ (decimal greatest ++ codes "]"))))
