-- That a list is a collection has one proof: what a type keeps of it in a ghost field tells no two of its values apart.
use Rattle.std.specs.Prelude.{ℕ, ◌+◌, [], ◌∷◌}
use Rattle.std.specs.Coded.{le_prop, Unit-prop}
use Rattle.s2ix_bag_pairs.specs.Collection.{Collection, IsCollectionFrom}
use Rattle.s2ix_bag_pairs.specs.Pair.{rank_of}

pub IsCollection-prop : (n : ℕ) (hs : Collection) → IsProp (IsCollectionFrom n hs)
IsCollection-prop n [] = Unit-prop
IsCollection-prop n (h ∷ hs) = hlevel (le_prop, IsCollection-prop (rank_of h.pair + 1) hs)
