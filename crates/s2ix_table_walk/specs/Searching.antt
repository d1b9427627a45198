-- Where a search for a range stands: private words of the walk.
use Rattle.std.specs.Prelude.{◌≡◌, ℕ, ◌+◌, ◌-◌, ◌*◌, ◌/◌, ◌^◌, ◌<◌, ◌≤◌, List, length}
use Rattle.s2id_core.specs.BinaryDigits.{binary_digits}
use Rattle.s2ix_table_walk.specs.Shown.{Shown}
use Rattle.s2ix_table_walk.specs.Table.{Range, range_at}
use Rattle.s2ix_table_walk.specs.declared.search_state.Narrowing.{Narrowing}

-- the range with a leaf is one of `size` from `first` on
pub record IsWindow (ranges : List Range) (leaf first size : ℕ) : Type 0 where
  pub some : 1 ≤ size
  pub within : first + size ≤ length ranges
  pub start : (range_at ranges first).start ≤ leaf
  pub limit : first + size < length ranges → leaf < (range_at ranges (first + size)).start

-- the range with a leaf is in one of some groups of 16 ranges, from `first` on; the last group ends before the range `end`, if not sooner
pub record AreGroups (ranges : List Range) (leaf first end groups : ℕ) : Type 0 where
  pub some : 1 ≤ groups
  pub before : first + (groups - 1) * 16 < end
  pub within : end ≤ length ranges
  pub start : (range_at ranges first).start ≤ leaf
  pub limit : first + groups * 16 < end → leaf < (range_at ranges (first + groups * 16)).start
  pub stop : end < length ranges → leaf < (range_at ranges end).start

-- a search by borders looks among some ranges still, and at the borders from `low` on and before `high`. It may read as many ranges as
-- `room` has binary digits; so many halvings leave one range
pub record IsNarrowing {P : Type 0} (shown : Shown P) (leaf : ℕ) (at : Narrowing) : Type 0 where
  pub window : IsWindow shown.ranges leaf at.among.first at.among.size
  pub order : at.low ≤ at.high
  pub within : at.high ≤ length shown.borders
  pub most : at.among.size ≤ 2 ^ binary_digits at.room
  pub power : at.room ≡ 2 ^ binary_digits at.room / 2
