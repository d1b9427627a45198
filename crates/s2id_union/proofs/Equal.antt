-- What `==` answers of two unions: whether they have the same cells, and so whether they have the same leaves.
use Rattle.std.proofs.Common.{◌≡◌, ◌↔◌, true, List, nat_eq, subst}
use Rattle.std.specs.Bool.{Decides}
use Rattle.std.specs.Ordering.{on}
use Rattle.std.specs.Cmp.Lexicographic.{pointwise, pointwise_decides}
use Rattle.s2id_core.proofs.Cells.{cells_decided}
use Rattle.s2id_core.specs.CellId.{raw_of}
use Rattle.s2id_core.specs.declared.cell_id.CellId.{CellId}
use Rattle.s2id_union.specs.Region.{IsNormal, HaveSameRegion}
use Rattle.s2id_union.proofs.Unique.{one_normal}

pub cell_lists_decided : (xs ys : List CellId) → Decides (pointwise (on raw_of nat_eq) xs ys) (xs ≡ ys)
cell_lists_decided = pointwise_decides cells_decided

pub leaves_decided : (xs ys : List CellId) → IsNormal xs → IsNormal ys → (pointwise (on raw_of nat_eq) xs ys ≡ true) ↔ HaveSameRegion xs ys
leaves_decided xs ys xs_normal ys_normal =
    let cells = cell_lists_decided xs ys in (
      λ equal. subst (HaveSameRegion xs) (cells.0 equal) (λ leaf is_leaf. (λ held. held, λ held. held)),
      λ same. cells.1 (one_normal xs ys xs_normal ys_normal same),
    )
