use Rattle.s2id_union.proofs.Forms.{shared_form}
use Rattle.s2id_union.proofs.Made.{shared_leaves}
use Rattle.s2id_union.proofs.cell_union.CellUnion.intersection.Goals as goal

pub returns-clause-leaves : goal.returns-clause-leaves
returns-clause-leaves c =
    shared_leaves c.args.self.now c.args.other.now c.cells-first.result.now c.cells-second.result.now c.in_ok-cells.cells.items c.cells-first.ensures.list c.cells-second.ensures.list c.in_ok-cells.ensures.covers

pub returns-clause-form : goal.returns-clause-form
returns-clause-form c =
    shared_form c.args.self.now c.args.other.now c.cells-first.result.now c.cells-second.result.now c.in_ok-cells.cells.items c.cells-first.ensures.list c.cells-second.ensures.list c.in_ok-cells.ensures.normal c.in_ok-cells.ensures.covers
