-- A bag on the way through changes: one that stays as it is, with the counts that they set beside it.
use Rattle.std.specs.Prelude.{◌≡◌, ℕ, List, [], ◌∷◌, length}
use Rattle.s2ix_bag_pairs.specs.declared.pair.Pair.{Pair}
use Rattle.s2ix_bag_pairs.specs.Collection.{Collection, LimitedCollection, IsBag, set_count}

-- the collection with the counts set that pairs have in a list, the first that stands there for each pair
abbrev pub with_counts : Collection → List (Pair × ℕ) → Collection
with_counts hs [] = hs
with_counts hs (c ∷ cs) = set_count c.0 c.1 (with_counts hs cs)

-- what such counts make of a bag is a bag, with so many pairs
pub record IsReached (base reached : LimitedCollection) (len : ℕ) : Type 0 where
  pub from : IsBag base
  pub is_bag : IsBag reached
  pub counted : len ≡ length reached.held
