-- Blocks of leaves.
use Rattle.std.specs.Prelude.{ℕ, ◌-◌, ◌*◌, ◌^◌, ◌<◌, ◌≤◌}
use Rattle.s2ix_table_walk.specs.Table.{leaf_end}

-- all leaves are in so many blocks of 2 ^ shift leaf numbers but the last one, and the end of that one fits a word
pub record HaveAllLeaves (count shift : ℕ) : Type 0 where
  pub all : leaf_end ≤ (count - 1) * 2 ^ shift
  pub fit : count * 2 ^ shift < 18446744073709551615
  pub small : shift ≤ 60
