-- The order of pairs.
use Rattle.std.specs.Prelude.{ℕ, ◌+◌, ◌*◌}
use Rattle.s2id_core.specs.CellId.{raw_of}
use Rattle.s2ix_bag_pairs.specs.declared.pair.Pair.{Pair}
use Rattle.s2ix_bag_pairs.specs.Label.{value_of}

-- the pair's place in the order by cell, then by label; no two pairs have the same
abbrev pub rank_of : Pair → ℕ
rank_of pair = raw_of pair.cell * 2147483648 + value_of pair.label
