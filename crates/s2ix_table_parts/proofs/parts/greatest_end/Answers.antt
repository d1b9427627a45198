use Rattle.std.proofs.Common.{◌≤◌, ap, ◌∙◌, arith, subst}
use Rattle.s2id_core.specs.CellId.{end_of}
use Rattle.s2id_core.specs.declared.cell_id.CellId.{CellId}
use Rattle.s2ix_bag_pairs.specs.declared.pair.Held.{Held}
use Rattle.s2ix_table_heavy.proofs.ChangedCells.{all_front, all_of_them}
use Rattle.s2ix_table_parts.proofs.parts.greatest_end.Goals as goal

pub loop-h-preserved : goal.loop-h-preserved
loop-h-preserved c =
    let h = c.h-item.result in
    let was = c.loop-h.invariant in
    let old_by = was.0 in
    let is = c.max-greatest.ensures in
    let end = c.span_end.ensures ∙ ap (λ (x : CellId). end_of x) c.cell.ensures in
    let here : end_of h.pair.cell ≤ c.max-greatest.result = omega arith in (
      omega arith,
      all_front (λ (x : Held). end_of x.pair.cell ≤ c.max-greatest.result) c.loop-h.h-index c.args.held.now h c.loop-h-test.true
          (λ x i. let le = was.1 x i in omega arith) (subst (λ (x : Held). end_of x.pair.cell ≤ c.max-greatest.result) c.h-item.is here),
    )

pub returns-clause-ends : goal.returns-clause-ends
returns-clause-ends c =
    all_of_them (λ (h : Held). end_of h.pair.cell ≤ c.loop-h.greatest) c.loop-h.h-index c.args.held.now (omega arith) c.loop-h.invariant.1
