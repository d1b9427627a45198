use Rattle.std.proofs.Common.{arith}
use Rattle.s2id_core.specs.CellId.{raw_of}
use Rattle.s2id_core.proofs.Nested.{span}
use Rattle.s2id_union.proofs.Adding.{adding_next}
use Rattle.s2id_union.proofs.span.add_span.Goals as goal

pub loop-at-smaller : goal.loop-at-smaller
loop-at-smaller c =
    let cell = c.greatest_at-cell.result in
    let s = span (raw_of cell) cell.valid in
    let s1 = s.from in
    let s2 = s.to in
    let g1 = c.greatest_at-cell.ensures.begins in
    let g2 = c.greatest_at-cell.ensures.ends in
    omega (arith, c.span_end-at.ensures, c.loop-at-test.true)

pub loop-at-preserved : goal.loop-at-preserved
loop-at-preserved c =
    let cell = c.greatest_at-cell.result in
    adding_next _ _ _ _ _ _ _ c.loop-at.invariant.0 c.loop-at.invariant.1 c.loop-at-test.true cell c.greatest_at-cell.ensures c.in_ok-push.ensures.items c.span_end-at.ensures
