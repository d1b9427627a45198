-- The cells that were gathered are the label's.
use Rattle.std.proofs.Common.{List, ◌∙◌, subst}
use Rattle.std.proofs.lemmas.Result.{IfOk-weaker}
use Rattle.s2id_core.specs.declared.cell_id.CellId.{CellId}
use Rattle.s2id_union.specs.Region.{HaveSameRegion}
use Rattle.s2ix_edit_plan.proofs.region.region_of.Goals as goal

pub returns-clause-region : goal.returns-clause-region
returns-clause-region c =
    IfOk-weaker c.normalise.result _ _
    (λ union same.
    let Same : List CellId → Type 0 = λ cells. HaveSameRegion union cells in
    subst Same (c.as_slice.ensures.value ∙ c.in_ok-cells.ensures) same)
    c.normalise.ensures.region
