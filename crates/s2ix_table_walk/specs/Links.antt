-- Chains that are kept in lists: pairs, and beside each the place of the next one outwards.
use Rattle.std.specs.Prelude.{◌≡◌, ℕ, ◌≤◌, List, [], ◌∷◌, Some, length, slice_get}
use Rattle.s2ix_bag_pairs.specs.Collection.{Collection}
use Rattle.s2ix_bag_pairs.specs.declared.pair.Held.{Held}

-- the chain from a place is the pair there, and then the chain from the number beside it; from a number that is no place there is no chain
pub record AreLinked (held : Collection) (outer : List ℕ) (chain : ℕ → Collection) : Type 0 where
  pub size : length outer ≡ length held
  pub goes_on : (place next : ℕ) (h : Held) → slice_get held place ≡ Some h → slice_get outer place ≡ Some next → chain place ≡ h ∷ chain next
  pub ends : (place : ℕ) → length held ≤ place → chain place ≡ []
