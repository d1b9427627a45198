-- Changes: what differs between two collections.
use Rattle.std.specs.Prelude.{◌≢◌, ℕ, ◌+◌, ◌≤◌, ◌==◌, if◌then◌else◌, Option, Some, None, List, [], ◌∷◌, map}
use Rattle.s2ix_bag_pairs.specs.declared.pair.Pair.{Pair}
use Rattle.s2ix_bag_pairs.specs.declared.pair.Held.{Held}
use Rattle.s2ix_bag_pairs.specs.declared.pair.Entry.{Entry}
use Rattle.s2ix_bag_pairs.specs.Pair.{rank_of}
use Rattle.s2ix_bag_pairs.specs.Collection.{Collection, count_in, set_count}

-- pairs strictly rising from the rank n on, each with two different counts
abbrev pub IsChangeListFrom : ℕ → List Entry → Type 0
IsChangeListFrom n [] = Unit {0}
IsChangeListFrom n (e ∷ es) = (n ≤ rank_of e.pair) × (e.before ≢ e.after) × IsChangeListFrom (rank_of e.pair + 1) es

abbrev pub IsChangeList : List Entry → Type 0
IsChangeList es = IsChangeListFrom 0 es

-- the collections with each pair of either, once each and rising
abbrev pub joined : Collection → Collection → Collection
joined hs [] = hs
joined hs (k ∷ ks) = joined (set_count k.pair k.count hs) ks

-- what a list of held pairs has to say of the pairs whose counts differ in two collections
abbrev pub differences : Collection → Collection → Collection → List Entry
differences old new [] = []
differences old new (h ∷ hs) =
    if count_in old h.pair == count_in new h.pair then differences old new hs
    else record { pair = h.pair; before = count_in old h.pair; after = count_in new h.pair } ∷ differences old new hs

-- the change between two collections: exactly the pairs whose counts differ, with both counts, pairs rising
abbrev pub change_between : Collection → Collection → List Entry
change_between old new = differences old new (joined old new)

-- the counts before and after that a change has for the pair with this rank, or `None`
abbrev pub counts_at : List Entry → ℕ → Option (ℕ × ℕ)
counts_at [] rank = None
counts_at (e ∷ es) rank = if rank_of e.pair == rank then Some (e.before, e.after) else counts_at es rank

-- the counts of one pair in two collections if they differ, or `None`
abbrev pub difference_of : ℕ → ℕ → Option (ℕ × ℕ)
difference_of before after = if before == after then None else Some (before, after)

-- a count after a change that has these counts, or none, for its pair
abbrev pub count_after : Option (ℕ × ℕ) → ℕ → ℕ
count_after None count = count
count_after (Some counts) count = counts.1

-- an entry for a pair whose counts differ, before those that are there already
abbrev pub entry_with : Pair → ℕ → ℕ → List Entry → List Entry
entry_with pair before after es =
    if before == after then es else record { pair = pair; before = before; after = after } ∷ es

-- the entry of a pair that is held no more
abbrev pub removal_of : Held → Entry
removal_of h = record { pair = h.pair; before = h.count; after = 0 }

-- an entry with its two counts exchanged
abbrev pub exchanged : Entry → Entry
exchanged e = record { pair = e.pair; before = e.after; after = e.before }

-- the change that takes a change back
abbrev pub inverse_of : List Entry → List Entry
inverse_of es = map exchanged es

-- the collection with the count after set for each pair of a change, and no other changed
abbrev pub changed : Collection → List Entry → Collection
changed hs [] = hs
changed hs (e ∷ es) = changed (set_count e.pair e.after hs) es
