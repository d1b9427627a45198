use Rattle.s2id_union.proofs.Joining.{AreInOrderTo}
use Rattle.s2id_union.proofs.join.is_in_order.Given as goal

abbrev pub invariant-loop-cell : goal.invariant-loop-cell
invariant-loop-cell l = AreInOrderTo l.cells l.cell-index l.before
