use Rattle.std.proofs.Common.{◌≤◌, ap, ◌∙◌, arith, subst}
use Rattle.s2id_core.specs.CellId.{raw_of, first_of}
use Rattle.s2id_core.specs.declared.cell_id.CellId.{CellId}
use Rattle.s2id_core.proofs.Nested.{span}
use Rattle.s2ix_bag_pairs.specs.declared.pair.Held.{Held}
use Rattle.s2ix_table_heavy.proofs.ChangedCells.{all_front, all_of_them}
use Rattle.s2ix_table_parts.proofs.parts.least_begin.Goals as goal

pub loop-h-preserved : goal.loop-h-preserved
loop-h-preserved c =
    let h = c.h-item.result in
    let odd = (span (raw_of h.pair.cell) h.pair.cell.valid).odd in
    let was = c.loop-h.invariant in
    let old_odd = was.0 in
    let old_by = was.1 in
    let is = c.min-least.ensures in
    let start = c.span_start.ensures ∙ ap (λ (x : CellId). first_of x) c.cell.ensures in
    let here : c.min-least.result ≤ first_of h.pair.cell = omega arith in (
      omega arith,
      omega arith,
      all_front (λ (x : Held). c.min-least.result ≤ first_of x.pair.cell) c.loop-h.h-index c.args.held.now h c.loop-h-test.true
          (λ x i. let le = was.2 x i in omega arith) (subst (λ (x : Held). c.min-least.result ≤ first_of x.pair.cell) c.h-item.is here),
    )

pub returns-clause-begins : goal.returns-clause-begins
returns-clause-begins c =
    all_of_them (λ (h : Held). c.loop-h.least ≤ first_of h.pair.cell) c.loop-h.h-index c.args.held.now (omega arith) c.loop-h.invariant.2
