-- The ranges of the limits.
use Rattle.std.specs.Prelude.{ℕ, ◌≤◌}

-- limits on pairs, on the count of a pair and on changes, each in its range
abbrev pub AreLimits : ℕ → ℕ → ℕ → Type 0
AreLimits pairs count changes =
    (1 ≤ pairs) × (pairs ≤ 1000000) × (1 ≤ count) × (count ≤ 4294967295) × (1 ≤ changes) × (changes ≤ 100000)
