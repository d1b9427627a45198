use Rattle.std.proofs.Common.{arith}
use Rattle.s2id_union.proofs.Sweeping.{before_first, within_cell}
use Rattle.s2id_union.proofs.sweep.stretch_at.Goals as goal

pub returns-then-at-first : goal.returns-then-at-first
returns-then-at-first c =
    let s = before_first c.args.cells.now c.requires.follow c.args.k c.args.at c.span_start-first.result c.requires.ahead c.index-cells-k.result (omega arith) c.index-cells-k.is c.span_start-first.ensures c.if-at-first.true in
    record { rises = s.rises; on_curve = s.on_curve; odd = s.odd; reached = s.reached; constant = s.constant }

pub returns-else-at-first : goal.returns-else-at-first
returns-else-at-first c =
    let s = within_cell c.args.cells.now c.requires.follow c.args.k c.args.at c.span_start-first.result c.span_end.result c.requires.ahead c.index-cells-k.result c.index-cells-k-else-at-first.result (omega arith) c.index-cells-k.is c.index-cells-k-else-at-first.is c.span_start-first.ensures c.span_end.ensures c.if-at-first.false in
    record { rises = s.rises; on_curve = s.on_curve; odd = s.odd; reached = s.reached; constant = s.constant }
