use Rattle.s2id_union.proofs.Joining.{in_order_next}
use Rattle.s2id_union.proofs.join.is_in_order.Goals as goal

pub loop-cell-preserved : goal.loop-cell-preserved
loop-cell-preserved c =
    in_order_next c.args.cells.now c.loop-cell.cell-index c.loop-cell.before c.span_start-first.result c.cell-item.result c.loop-cell.invariant c.loop-cell-test.true c.cell-item.is c.span_start-first.ensures c.if-first-before.false
