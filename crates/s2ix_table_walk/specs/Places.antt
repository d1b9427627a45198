-- Places: where a table keeps a chain of held pairs, from the innermost outwards.
use Rattle.std.specs.Prelude.{◌≡◌, ◌<◌, Option, Some, None, [], length}
use Rattle.s2ix_bag_pairs.specs.Collection.{Collection}

-- a place of a table: its chain is not empty
abbrev pub IsPlace : {P : Type 0} → (P → Collection) → P → Type 0
IsPlace chain place = 0 < length (chain place)

-- the pairs from a place on, or none
abbrev pub from_place : {P : Type 0} → (P → Collection) → Option P → Collection
from_place chain None = []
from_place chain (Some place) = chain place

-- an answer leads to these pairs: it is a place whose chain they are, or `None` if there are none
pub record LeadsTo {P : Type 0} (chain : P → Collection) (answer : Option P) (pairs : Collection) : Type 0 where
  pub pairs_are : from_place chain answer ≡ pairs
  pub place : (p : P) → answer ≡ Some p → IsPlace chain p
