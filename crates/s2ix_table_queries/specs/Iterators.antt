-- What the iterators have still to give.
use Rattle.std.specs.Prelude.{◌≡◌, ℕ, ◌+◌, Option, List, [], ◌∷◌, drop}
use Rattle.std.specs.Iterator.{YieldsFirst}
use Rattle.s2ix_table_queries.specs.declared.iter.RangeIter.{RangeIter}
use Rattle.s2ix_table_walk.specs.declared.row.RangeRow.{RangeRow}
use Rattle.s2ix_table_walk.specs.Table.{Range}

-- the bounds of ranges with their places, counted from k
abbrev pub numbered_rows : ℕ → List Range → List (ℕ × RangeRow)
numbered_rows k [] = []
numbered_rows k (r ∷ rs) = (k, record { start = r.start; limit = r.limit }) ∷ numbered_rows (k + 1) rs

-- the table that an iterator goes over
abbrev pub table_of : {T : Type 0} → RangeIter T → T
table_of it = it.table.now

-- the bounds that an iterator has still to give, with their places
abbrev pub ranges_left : {T : Type 0} → (T → List Range) → RangeIter T → List (ℕ × RangeRow)
ranges_left ranges it = numbered_rows it.next (drop it.next (ranges it.table.now))

-- an iterator goes over the ranges of a table from the k-th on
pub record IsAtRange {T : Type 0} (ranges : T → List Range) (table : T) (it : RangeIter T) (k : ℕ) : Type 0 where
  pub same : it.table.now ≡ table
  pub left : ranges_left ranges it ≡ numbered_rows k (drop k (ranges table))

-- a call gave the first of the bounds that were left and left the others, or `None` if none were left; the table stays the same
pub record StepsOn {T : Type 0} (ranges : T → List Range) (old : RangeIter T) (answer : Option (ℕ × RangeRow))
    (new : RangeIter T) : Type 0 where
  pub yields : YieldsFirst (ranges_left ranges) old answer new
  pub same : table_of new ≡ table_of old
