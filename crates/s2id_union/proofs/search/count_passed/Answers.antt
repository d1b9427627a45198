use Rattle.std.proofs.Common.{◌+◌, ◌-◌, ◌/◌, ◌<◌, length, arith}
use Rattle.s2id_union.proofs.Searching.{ends_from, ends_to}
use Rattle.s2id_union.proofs.search.count_passed.Goals as goal

pub loop-low-preserved-then-span_end-at : goal.loop-low-preserved-then-span_end-at
loop-low-preserved-then-span_end-at c =
    let m = c.loop-low.low + (c.loop-low.high - c.loop-low.low) / 2 in
    let lt = c.loop-low-test.true in
    let most = c.loop-low.invariant.1 in
    let within : m < length c.args.cells.now = omega arith in (
      omega arith,
      most,
      (λ j d le l. let r = ends_to c.args.cells.now c.requires m c.index-cells-middle.result within c.index-cells-middle.is j d le l in omega (arith, c.span_end.ensures, c.if-span_end-at.true)),
      c.loop-low.invariant.3,
    )

pub loop-low-preserved : goal.loop-low-preserved
loop-low-preserved c =
    let m = c.loop-low.low + (c.loop-low.high - c.loop-low.low) / 2 in
    let lt = c.loop-low-test.true in
    let most = c.loop-low.invariant.1 in
    let within : m < length c.args.cells.now = omega arith in (
      omega arith,
      omega arith,
      c.loop-low.invariant.2,
      (λ j d ge l. let r = ends_from c.args.cells.now c.requires m c.index-cells-middle.result within c.index-cells-middle.is j d ge l in omega (arith, c.span_end.ensures, c.if-span_end-at.false)),
    )
