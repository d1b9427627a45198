use Rattle.s2id_union.proofs.Made.{same_leaves}
use Rattle.s2id_union.proofs.NormalForm.{form_by_region}
use Rattle.s2id_union.proofs.Shortest.{shortest}
use Rattle.s2id_union.proofs.cell_union.CellUnion.normalise.Goals as goal

pub returns-clause-region : goal.returns-clause-region
returns-clause-region c = same_leaves c.in_ok-cells.cells.items c.args.cells.now c.in_ok-cells.ensures.covers

pub returns-clause-form : goal.returns-clause-form
returns-clause-form c =
    form_by_region c.in_ok-cells.cells.items c.args.cells.now c.in_ok-cells.ensures.normal (same_leaves c.in_ok-cells.cells.items c.args.cells.now c.in_ok-cells.ensures.covers)

pub returns-clause-at_most : goal.returns-clause-at_most
returns-clause-at_most c =
    shortest c.in_ok-cells.cells.items c.args.cells.now c.in_ok-cells.ensures.normal (same_leaves c.in_ok-cells.cells.items c.args.cells.now c.in_ok-cells.ensures.covers)
