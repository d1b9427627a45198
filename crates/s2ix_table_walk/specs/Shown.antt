-- The table that a reader reads.
use Rattle.std.specs.Prelude.{◌≡◌, ◌+◌, ◌<◌, ◌≤◌, ℕ, zero, suc, List, [], ◌∷◌, length, slice_index_or}
use Rattle.std.proofs.Common.{arith}
use Rattle.s2ix_bag_pairs.specs.Collection.{Collection, IsCollection}
use Rattle.s2ix_table_walk.specs.Table.{Range, IsRangeTable}

-- held pairs, ranges, the pairs from a place on, outwards, and the ranges at which the parts of the table begin
pub record Shown (P : Type 0) : Type 0 where
  pub pairs : Collection
  pub ranges : List Range
  pub chain : P → Collection
  pub borders : List ℕ

-- the parts of a table begin at some of its ranges, in order; several may begin at one
pub record AreBorders (ranges : List Range) (borders : List ℕ) : Type 0 where
  pub within : (m : ℕ) → m < length borders → slice_index_or borders m 0 < length ranges
  pub within_limit : length borders < 18446744073709551616
  pub rise : (j m : ℕ) → j + 1 ≡ m → m < length borders → slice_index_or borders j 0 ≤ slice_index_or borders m 0

within_one : (m n : ℕ) → 0 < n → slice_index_or (0 ∷ []) m 0 < n
within_one zero n some = some
within_one (suc m) n some = some

-- a table that isn't kept in parts is one, which begins at its first range
pub one_border : {ranges : List Range} → 0 < length ranges → AreBorders ranges (0 ∷ [])
one_border {ranges} some = record { within = λ m lt. within_one m (length ranges) some; within_limit = omega arith; rise = λ j m next lt. absurd (omega arith) }

-- the ranges are the range table of the pairs, these are at most as many as the widest limits let a bag hold, and the borders are ranges
pub record IsShown {P : Type 0} (shown : Shown P) : Type 0 where
  pub is_collection : IsCollection shown.pairs
  pub is_table : IsRangeTable shown.pairs shown.ranges
  pub within_limit : length shown.pairs ≤ 1000000
  pub are_borders : AreBorders shown.ranges shown.borders
