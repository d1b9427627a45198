-- Changes taken back: the difference of each entry subtracted from the count that its pair has now.
use Rattle.std.specs.Prelude.{ℕ, ◌+◌, ◌-◌, ℤ, pos, ◌-ℤ◌, Bool, nat_lt, Option, Some, None, List, map, position}
use Rattle.s2ix_bag_pairs.specs.declared.pair.Entry.{Entry}
use Rattle.s2ix_bag_pairs.specs.Collection.{Collection, count_in}
use Rattle.s2ix_bag_pairs.specs.Change.{changed}

-- the count of an entry's pair less the entry's difference, which is the count after less the count before
abbrev pub count_back : Collection → Entry → ℕ
count_back hs e = count_in hs e.pair + e.before - e.after

-- whether that is below 0
abbrev pub is_below_zero : Collection → Entry → Bool
is_below_zero hs e = nat_lt (count_in hs e.pair + e.before) e.after

-- the place of the first entry at which it is
abbrev pub first_below_zero : Collection → List Entry → Option ℕ
first_below_zero hs es = position (is_below_zero hs) es

-- the entry that takes another back: from the count that its pair has now to that count less the difference
abbrev pub entry_back : Collection → Entry → Entry
entry_back hs e = record { pair = e.pair; before = count_in hs e.pair; after = count_back hs e }

-- the change that takes a change back from what a collection counts
abbrev pub change_back : Collection → List Entry → List Entry
change_back hs es = map (entry_back hs) es

-- the collection with a change taken back; it has a meaning if no entry is below 0
abbrev pub taken_back : Collection → List Entry → Collection
taken_back hs es = changed hs (change_back hs es)

-- by how much a change with these counts for a pair, or without, changes its count
abbrev pub gain_of : Option (ℕ × ℕ) → ℤ
gain_of None = pos 0
gain_of (Some counts) = pos counts.1 -ℤ pos counts.0
