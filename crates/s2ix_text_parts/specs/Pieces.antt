-- Pieces that a source gave, one after the other.
use Rattle.std.specs.Prelude.{◌≡◌, ℕ, zero, suc, ◌<◌, ◌≤◌, Option, List, length}
use Rattle.std.specs.Io.KnownBytes.{Consumes}

-- between the two states so many bytes were read, of those that are known
abbrev pub Gave : Option (List ℕ) → ℕ → Option (List ℕ) → Type 0
Gave old n new = (bytes : List ℕ) × Consumes old new bytes × (length bytes ≡ n)

-- from the first state of a source to the second exactly so many pieces were read, and none was the end: each had a byte at least
abbrev pub ReadsOn : {S : Type 0} → (S → ℕ → S → Type 0) → ℕ → S → S → Type 0
ReadsOn gives zero old new = old ≡ new
ReadsOn {S} gives (suc pieces) old new = (mid : S) × ReadsOn gives pieces old mid × (n : ℕ) × (0 < n) × gives mid n new

-- from the first state of a source to the second at least one piece was read and at most `turns`, and none was the end
abbrev pub ReadsWithin : {S : Type 0} → (S → ℕ → S → Type 0) → ℕ → S → S → Type 0
ReadsWithin gives turns old new = (pieces : ℕ) × (0 < pieces) × (pieces ≤ turns) × ReadsOn gives pieces old new

-- from the first state of a source to the second fewer than `turns` pieces were read, each with a byte at least, and then the one
-- that was the end
abbrev pub ReadsToEnd : {S : Type 0} → (S → ℕ → S → Type 0) → ℕ → S → S → Type 0
ReadsToEnd {S} gives turns old new = (pieces : ℕ) × (pieces < turns) × (mid : S) × ReadsOn gives pieces old mid × gives mid 0 new
