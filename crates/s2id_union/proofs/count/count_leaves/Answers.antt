use Rattle.std.proofs.Common.{get_or, sym, ap, arith}
use Rattle.s2id_core.specs.declared.cell_id.CellId.{CellId}
use Rattle.s2id_core.specs.CellId.{raw_of, first_of}
use Rattle.s2id_core.proofs.Nested.{span}
use Rattle.s2id_union.proofs.Searching.{follow_from_normal}
use Rattle.s2id_union.proofs.Counting.{total-none, total_more, next_bound, cell_width, counted}
use Rattle.s2id_union.proofs.count.count_leaves.Goals as goal

pub loop-cell-init : goal.loop-cell-init
loop-cell-init c = (
  sym total-none,
  λ j d le l. let s = (span (raw_of (get_or c.args.cells.now j d)) (get_or c.args.cells.now j d).valid).begins in omega arith,
)

pub overflow_add-count : goal.overflow_add-count
overflow_add-count c =
    let x = c.cell-item.result in
    let first = c.span_start-first.ensures in
    let end = c.span_end-end.ensures in
    let bound = c.loop-cell.invariant.1 c.loop-cell.cell-index x (omega arith) c.loop-cell-test.true in
    let is = ap (λ (y : CellId). first_of y) c.cell-item.is in
    let w = cell_width x in
    let w0 = w.0 in
    let w1 = w.1 in
    omega arith

pub loop-cell-preserved : goal.loop-cell-preserved
loop-cell-preserved c =
    let cells = c.args.cells.now in
    let x = c.cell-item.result in
    let k = c.loop-cell.cell-index in
    let l = c.loop-cell-test.true in
    let first = c.span_start-first.ensures in
    let end = c.span_end-end.ensures in
    let more = total_more cells k x l c.cell-item.is in
    let bound = c.loop-cell.invariant.1 k x (omega arith) l in
    let is = ap (λ (y : CellId). first_of y) c.cell-item.is in
    let so_far = c.loop-cell.invariant.0 in (
      omega arith,
      next_bound cells k c.loop-cell.count _ (follow_from_normal cells c.requires) x l c.cell-item.is (omega arith) (omega arith),
    )

pub returns : goal.returns
returns c =
    counted c.args.cells.now c.loop-cell.cell-index c.loop-cell.count (follow_from_normal c.args.cells.now c.requires) (omega arith) c.loop-cell.invariant.0

pub overflow_sub-count : goal.overflow_sub-count
overflow_sub-count c =
    let x = c.cell-item.result in
    let first = c.span_start-first.ensures in
    let end = c.span_end-end.ensures in
    let w = (cell_width x).0 in
    omega arith
