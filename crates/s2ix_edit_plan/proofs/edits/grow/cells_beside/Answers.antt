use Rattle.std.proofs.Common.{◌+◌, ◌≤◌, List, sym, subst, arith}
use Rattle.std.proofs.lemmas.List.{take_all}
use Rattle.s2id_core.specs.declared.cell_id.CellId.{CellId}
use Rattle.s2id_core.specs.CellId.{level_of}
use Rattle.s2ix_edit_plan.proofs.Beside.{AreNext, next_more, none_next}
use Rattle.s2ix_edit_plan.proofs.edits.grow.cells_beside.Goals as goal

pub loop-cell-init : goal.loop-cell-init
loop-cell-init c = none_next c.args.level _ c.new-beside.ensures.items

pub add_beside-requires-clause-near : goal.add_beside-requires-clause-near
add_beside-requires-clause-near c =
    subst (λ (cell : CellId). c.args.level ≤ level_of cell + 8) (sym c.cell-item.is)
    (c.requires.near c.loop-cell.cell-index c.cell-item.result (omega arith))

pub loop-cell-preserved : goal.loop-cell-preserved
loop-cell-preserved c =
    next_more c.args.level c.loop-cell.cell-index c.args.cells.now c.cell-item.result c.loop-cell.beside.items _ (omega arith)
    c.cell-item.is c.loop-cell.invariant c.in_ok-add_beside.ensures

pub returns : goal.returns
returns c =
    subst (λ (cs : List CellId). AreNext c.args.level cs c.loop-cell.beside.items)
    (take_all c.loop-cell.cell-index c.args.cells.now (omega arith)) c.loop-cell.invariant
