-- One pair more in front has the cell.
use Rattle.std.proofs.Common.{take, sym, ◌∙◌, arith}
use Rattle.s2id_core.proofs.Cells.{cells_decided}
use Rattle.s2ix_table_heavy.proofs.Cutting.{one_more_has_cell, one_cell_in}
use Rattle.s2ix_table_heavy.proofs.cut.chunk_len.Goals as goal

pub loop-len-preserved : goal.loop-len-preserved
loop-len-preserved c =
    let held = c.args.held.now in
    let cell = c.cell-cell.result in
    let x = c.index-held-len.result in
    let was = c.loop-len.invariant in
    let same = c.cell.ensures in
    let eq = (cells_decided c.cell.result cell).0 (sym c.eq.ensures ∙ c.if-eq.true) in (
      omega arith,
      omega arith,
      omega arith,
      one_more_has_cell held cell c.loop-len.len x (omega arith) c.index-held-len.is (sym same ∙ eq) was.3,
    )

pub returns-else-eq-clause-one_cell : goal.returns-else-eq-clause-one_cell
returns-else-eq-clause-one_cell c = one_cell_in (take c.loop-len.len c.args.held.now) c.cell-cell.result c.loop-len.invariant.3

pub returns-else-len-max_len-clause-one_cell : goal.returns-else-len-max_len-clause-one_cell
returns-else-len-max_len-clause-one_cell c = one_cell_in (take c.loop-len.len c.args.held.now) c.cell-cell.result c.loop-len.invariant.3

pub returns-after-loop-len-clause-one_cell : goal.returns-after-loop-len-clause-one_cell
returns-after-loop-len-clause-one_cell c = one_cell_in (take c.loop-len.len c.args.held.now) c.cell-cell.result c.loop-len.invariant.3
