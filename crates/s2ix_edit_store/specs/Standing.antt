-- Counts, read off where a history starts and what stands.
use Rattle.std.specs.Prelude.{ℕ, zero, suc, ℤ, pos, ◌+ℤ◌, List, [], ◌∷◌, ◌++◌, take, drop, get_or}
use Rattle.s2ix_bag_pairs.specs.declared.pair.Entry.{Entry}
use Rattle.s2ix_bag_pairs.specs.declared.pair.Pair.{Pair}
use Rattle.s2ix_bag_pairs.specs.Change.{counts_at}
use Rattle.s2ix_bag_pairs.specs.Collection.{Collection}
use Rattle.s2ix_bag_pairs.specs.Pair.{rank_of}
use Rattle.s2ix_bag_pairs.specs.TakenBack.{gain_of}
use Rattle.s2ix_edit_plan.specs.State.{State, history_of}

-- the collection that a store's history starts from
abbrev pub first_collection : State → Collection
first_collection s = get_or (history_of s).collections 0 []

-- the sum of the differences, the count after less the count before, that changes have for a pair
abbrev pub gain_along : List (List Entry) → Pair → ℤ
gain_along [] pair = pos 0
gain_along (es ∷ rest) pair = gain_of (counts_at es (rank_of pair)) +ℤ gain_along rest pair

-- the changes without the one that has the number, counted from 1; number 0 is that of none
abbrev pub without_numbered : ℕ → List (List Entry) → List (List Entry)
without_numbered zero changes = changes
without_numbered (suc place) changes = take place changes ++ drop (suc place) changes
