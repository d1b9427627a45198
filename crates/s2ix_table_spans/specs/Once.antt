-- Places of pairs in chains, and tables in which a pair has one place.
use Rattle.std.specs.Prelude.{◌≡◌, ℕ, ◌∷◌, drop, Contains}
use Rattle.s2ix_bag_pairs.specs.Collection.{Collection}
use Rattle.s2ix_bag_pairs.specs.declared.pair.Held.{Held}

-- a chain holds a pair at a place: the pair is the first from there outwards, and what lies outwards is the rest of the chain
pub record IsHeldAt {P : Type 0} (chain : P → Collection) (start : P) (h : Held) (place : P) : Type 0 where
  pub pair : chain place ≡ h ∷ drop 1 (chain place)
  pub rest : (k : ℕ) × (drop k (chain start) ≡ chain place)

-- each chain that holds a pair holds it at a place, and two chains hold it at the same one
pub record KeepsOnce {P : Type 0} (chain : P → Collection) : Type 0 where
  pub place : (start : P) (h : Held) → Contains (chain start) h → (p : P) × IsHeldAt chain start h p
  pub same : (start other p q : P) (h : Held) → IsHeldAt chain start h p → IsHeldAt chain other h q → p ≡ q
