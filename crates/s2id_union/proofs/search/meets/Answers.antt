use Rattle.std.proofs.Common.{sym, arith, Contains}
use Rattle.std.proofs.lemmas.Bool.Decides.{nat_tests}
use Rattle.s2id_union.proofs.Searching.{follow_from_normal, meets_ahead}
use Rattle.s2id_union.proofs.search.meets.Goals as goal

pub count_passed-k-requires : goal.count_passed-k-requires
count_passed-k-requires c = follow_from_normal c.args.cells.now c.requires

pub returns-then-k-cells : goal.returns-then-k-cells
returns-then-k-cells c =
    let x = c.index-cells-k.result in
    let held : Contains c.args.cells.now x = (c.count_passed-k.result, omega arith, sym c.index-cells-k.is) in (
      λ t. let o = c.intersects.ensures.leaves.0 t in (o.0, o.2, (held.0, x, held.1, held.2, o.1)),
      λ all. c.intersects.ensures.spans.1 ((meets_ahead c.args.cells.now c.requires c.count_passed-k.result c.span_start.result c.args.cell c.span_start.ensures c.count_passed-k.ensures.ahead all).1 x c.index-cells-k.is),
    )

pub returns-else-k-cells : goal.returns-else-k-cells
returns-else-k-cells c = (
  λ t. absurd (grind (arith, nat_tests)),
  λ all. absurd (let past = c.if-k-cells.false in let l = (meets_ahead c.args.cells.now c.requires c.count_passed-k.result c.span_start.result c.args.cell c.span_start.ensures c.count_passed-k.ensures.ahead all).0 in omega arith),
)
