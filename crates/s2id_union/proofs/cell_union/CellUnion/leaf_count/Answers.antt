use Rattle.std.proofs.Common.{◌≡◌, List, length, subst}
use Rattle.s2id_core.specs.Path.{Path}
use Rattle.s2id_union.specs.Region.{IsLeafList}
use Rattle.s2id_union.proofs.cell_union.CellUnion.leaf_count.Goals as goal

pub returns : goal.returns
returns c =
    subst (λ xs. (leaves : List Path) × IsLeafList xs leaves × (length leaves ≡ c.count_leaves.result)) c.cells.ensures.list c.count_leaves.ensures
