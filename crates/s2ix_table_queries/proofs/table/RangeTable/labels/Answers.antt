use Rattle.std.proofs.Common.{sym, subst}
use Rattle.s2id_union.specs.Region.{IsNormal}
use Rattle.s2id_union.proofs.Searching.{follow_from_normal}
use Rattle.s2ix_table_queries.proofs.table.RangeTable.labels.Goals as goal

pub labels_of_cells-requires : goal.labels_of_cells-requires
labels_of_cells-requires g c =
    follow_from_normal c.cells.result.now (subst IsNormal (sym c.cells.ensures.list) c.cells.ensures.normal)
