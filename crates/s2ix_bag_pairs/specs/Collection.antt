-- Collections: finite maps from pairs to counts above 0, as the list of what they hold in rising order.
use Rattle.std.specs.Prelude.{ℕ, zero, suc, ◌+◌, ◌<◌, ◌≤◌, ◌==◌, nat_lt, if◌then◌else◌, List, [], ◌∷◌, length, sum_by, All}
use Rattle.s2ix_bag_pairs.specs.declared.pair.Pair.{Pair}
use Rattle.s2ix_bag_pairs.specs.declared.pair.Held.{Held}
use Rattle.s2ix_bag_pairs.specs.declared.limits.Limits.{Limits}
use Rattle.s2ix_bag_pairs.specs.Pair.{rank_of}
use Rattle.s2ix_bag_pairs.specs.Limits.{pairs_limit, count_limit}

abbrev pub Collection : Type 0
Collection = List Held

-- pairs strictly rising from the rank n on, each with a count above 0
abbrev pub IsCollectionFrom : ℕ → Collection → Type 0
IsCollectionFrom n [] = Unit {0}
IsCollectionFrom n (h ∷ hs) = (n ≤ rank_of h.pair) × (0 < h.count) × IsCollectionFrom (rank_of h.pair + 1) hs

abbrev pub IsCollection : Collection → Type 0
IsCollection hs = IsCollectionFrom 0 hs

-- pairs all before the rank n
abbrev pub AreBelow : ℕ → Collection → Type 0
AreBelow n [] = Unit {0}
AreBelow n (h ∷ hs) = (rank_of h.pair < n) × AreBelow n hs

-- the count of the pair with this rank: 0 if it is not held
abbrev pub count_at : Collection → ℕ → ℕ
count_at [] rank = 0
count_at (h ∷ hs) rank = if rank_of h.pair == rank then h.count else count_at hs rank

-- the count of a pair: 0 if it is not held
abbrev pub count_in : Collection → Pair → ℕ
count_in hs pair = count_at hs (rank_of pair)

-- the collection past the pair with this rank, where that stands first
abbrev pub past : Collection → ℕ → Collection
past [] rank = []
past (h ∷ hs) rank = if rank_of h.pair == rank then hs else h ∷ hs

-- how many copies are held in all
abbrev pub copies_in : Collection → ℕ
copies_in hs = sum_by (λ h. h.count) hs

-- a pair that is held if its count is above 0, before what is held already
abbrev pub held_with : Pair → ℕ → Collection → Collection
held_with pair zero hs = hs
held_with pair (suc n) hs = record { pair = pair; count = suc n } ∷ hs

-- the collection with the count of one pair set, and no other changed
abbrev pub set_count : Pair → ℕ → Collection → Collection
set_count pair count [] = held_with pair count []
set_count pair count (h ∷ hs) =
    if nat_lt (rank_of pair) (rank_of h.pair) then held_with pair count (h ∷ hs)
    else (if rank_of pair == rank_of h.pair then held_with pair count hs else h ∷ set_count pair count hs)

-- a collection with the limits that it stays within: what contracts see of a bag
pub record LimitedCollection : Type 0 where
  pub limits : Limits
  pub held : Collection

-- a bag holds a collection within its limits
pub record IsBag (bag : LimitedCollection) : Type 0 where
  pub rises : IsCollection bag.held
  pub within_limit : length bag.held ≤ pairs_limit bag.limits
  pub small : All (λ h. h.count ≤ count_limit bag.limits) bag.held
