use Rattle.std.proofs.Common.{◌∙◌, ap, arith}
use Rattle.std.proofs.lemmas.List.{get_or_default}
use Rattle.s2id_core.specs.declared.cell_id.CellId.{CellId}
use Rattle.s2id_core.specs.CellId.{end_of}
use Rattle.s2id_union.proofs.Sweeping.{ahead_passed, ahead_stays}
use Rattle.s2id_union.proofs.sweep.pass_cell.Goals as goal
use Rattle.s2id_union.proofs.sweep.pass_cell.Goals.{else-k-cells-via-then-k-cells+else-span_end-end, else-k-cells-via-else-k-cells}

pub returns-then-span_end-end : goal.returns-then-span_end-end
returns-then-span_end-end c =
    ahead_passed c.args.cells.now c.requires.follow c.args.k c.args.at c.args.end c.requires.ahead c.requires.rises c.index-cells-k.result (omega arith) c.index-cells-k.is (omega (arith, c.span_end.ensures, c.if-span_end-end.true)) c.requires.reached

pub returns-else-k-cells : goal.returns-else-k-cells
returns-else-k-cells c =
    ahead_stays c.args.cells.now c.requires.follow c.args.k c.args.at c.args.end c.requires.ahead c.requires.rises (λ d within.
    elim c.else-k-cells.branch [
      | else-k-cells-via-then-k-cells+else-span_end-end w ↦
          (let e = ap (λ (x : CellId). end_of x) (w.index-cells-k.is ∙ get_or_default c.args.cells.now c.args.k w.index-cells-k.result d within) in
          omega (arith, w.span_end.ensures, w.if-span_end-end.false))
      | else-k-cells-via-else-k-cells w ↦ absurd (let past = w.if-k-cells.false in omega arith)
    ])
