-- Line feeds.
use Rattle.std.specs.Prelude.{ℕ, ◌==◌, Bool}

-- whether a byte is a line feed
abbrev pub is_feed : ℕ → Bool
is_feed byte = byte == 10
