use Rattle.std.proofs.Common.{inl, inr, sym, ◌∙◌, ap, refl, arith}
use Rattle.s2id_union.proofs.Joining.{joined_start, joined_next_gap, joined_next_no_gap, joined_end}
use Rattle.s2id_union.proofs.join.join_spans.Goals as goal
use Rattle.s2id_union.proofs.join.join_spans.Goals.{then-at-first+in_ok-add_span, else-at-first+then-at-end, else-at-first+else-at-end}

pub loop-cell-init : goal.loop-cell-init
loop-cell-init c =
    (joined_start c.args.sorted.now _ c.in_ok-cells.ensures.items, omega arith, omega arith, refl, refl)

pub loop-cell-preserved : goal.loop-cell-preserved
loop-cell-preserved c =
    let x = c.cell-item.result in
    let first = c.span_start-first.ensures in
    let end = c.span_end-end.ensures in
    let l = c.loop-cell-test.true in
    let inv = c.loop-cell.invariant in
    elim c.if-at-first.branch [
      | then-at-first+in_ok-add_span w ↦
          joined_next_gap c.args.sorted.now c.loop-cell.cells.items w.add_span.new.cells.items c.if-at-first.cells.items c.loop-cell.cell-index c.loop-cell.start c.loop-cell.at c.if-at-first.start c.if-at-first.at c.requires inv.0 w.in_ok-add_span.ensures x (omega arith) c.cell-item.is (omega (arith, first, w.if-at-first.true)) (ap (λ v. v.items) w.cells-is) (w.start-is ∙ first) (w.at-is ∙ end)
      | else-at-first+then-at-end w ↦
          joined_next_no_gap c.args.sorted.now c.loop-cell.cells.items c.if-at-first.cells.items c.loop-cell.cell-index c.loop-cell.start c.loop-cell.at c.if-at-first.start c.if-at-first.at inv.0 inv.1 inv.2 inv.3 inv.4 x (omega arith) c.cell-item.is (omega (arith, first, w.if-at-first.false)) (omega (arith, w.at-is, w.if-at-end.true)) (omega (arith, end, w.at-is)) (inr (sym (w.at-is ∙ end))) (ap (λ v. v.items) w.cells-is) w.start-is
      | else-at-first+else-at-end w ↦
          joined_next_no_gap c.args.sorted.now c.loop-cell.cells.items c.if-at-first.cells.items c.loop-cell.cell-index c.loop-cell.start c.loop-cell.at c.if-at-first.start c.if-at-first.at inv.0 inv.1 inv.2 inv.3 inv.4 x (omega arith) c.cell-item.is (omega (arith, first, w.if-at-first.false)) (omega (arith, w.at-is)) (omega (arith, end, w.at-is, w.if-at-end.false)) (inl (sym w.at-is)) (ap (λ v. v.items) w.cells-is) w.start-is
    ]

pub returns : goal.returns
returns c =
    let whole = joined_end c.args.sorted.now _ _ c.loop-cell.cell-index _ _ (omega arith) c.loop-cell.invariant.0 c.in_ok-add_span-2.ensures in
    record { normal = whole.normal; covers = whole.covers }
