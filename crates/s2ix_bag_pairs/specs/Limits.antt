-- Words on limits.
use Rattle.std.specs.Prelude.{◌≡◌, ℕ}
use Rattle.s2ix_bag_pairs.specs.declared.limits.Limits.{Limits}

-- the greatest number of distinct pairs
abbrev pub pairs_limit : Limits → ℕ
pairs_limit limits = limits.pairs

-- the greatest count of one pair
abbrev pub count_limit : Limits → ℕ
count_limit limits = limits.count

-- the greatest number of changes that a history keeps
abbrev pub changes_limit : Limits → ℕ
changes_limit limits = limits.changes

-- each limit is the greatest of its range
abbrev pub IsWidest : Limits → Type 0
IsWidest limits = (pairs_limit limits ≡ 1000000) × (count_limit limits ≡ 4294967295) × (changes_limit limits ≡ 100000)
