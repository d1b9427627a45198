-- What lies over some leaves, as a table keeps it: a chain in lists, and then one from a place of the table.
use Rattle.std.specs.Prelude.{◌≡◌, ℕ, ◌%◌, ◌<◌, ◌≤◌, ◌++◌, Option, Some, List}
use Rattle.s2ix_bag_pairs.specs.Collection.{Collection}
use Rattle.s2ix_table_walk.specs.Contents.{contents_at}
use Rattle.s2ix_table_walk.specs.Links.{AreLinked}
use Rattle.s2ix_table_walk.specs.Places.{IsPlace, from_place}

pub record AreContents {P : Type 0} (chain : P → Collection) (pairs : Collection) (start limit : ℕ) (held : Collection) (outers : List ℕ) (innermost : ℕ) (rest : Option P) : Type 0 where
  -- the chain from each place of the lists
  pub listed : ℕ → Collection
  pub linked : AreLinked held outers listed
  -- `rest` is a place of the table, if there is one
  pub place : (p : P) → rest ≡ Some p → IsPlace chain p
  -- over each leaf of the span lies the chain in the lists, and then that from `rest`
  pub over : (leaf : ℕ) → leaf % 2 ≡ 1 → start ≤ leaf → leaf < limit → contents_at leaf pairs ≡ listed innermost ++ from_place chain rest
