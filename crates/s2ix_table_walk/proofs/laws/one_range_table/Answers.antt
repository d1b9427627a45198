use Rattle.s2ix_table_walk.specs.Table.{leaf_end}
use Rattle.s2ix_table_walk.proofs.Tables.{same_table, table_from_places}
use Rattle.s2ix_table_walk.proofs.laws.one_range_table.Goals as goal

pub returns : goal.returns
returns c held xs ys x y =
    same_table held 1 xs ys leaf_end (table_from_places held 1 leaf_end xs x) (table_from_places held 1 leaf_end ys y)
