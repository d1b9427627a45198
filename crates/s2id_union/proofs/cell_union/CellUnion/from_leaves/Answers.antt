use Rattle.std.proofs.Common.{arith}
use Rattle.s2id_union.specs.Range.{IsLeafRange}
use Rattle.s2id_union.proofs.FewCells.{few_added}
use Rattle.s2id_union.proofs.Forms.{span_form}
use Rattle.s2id_union.proofs.Made.{normal_from_added, span_leaves}
use Rattle.s2id_union.proofs.cell_union.CellUnion.from_leaves.Goals as goal

pub invariant_of-result : goal.invariant_of-result
invariant_of-result c = normal_from_added _ _ _ _ c.in_ok-add_span.ensures

pub returns-clause-leaves : goal.returns-clause-leaves
returns-clause-leaves c = span_leaves _ _ _ _ c.new-cells.ensures.items c.in_ok-add_span.ensures

pub returns-clause-normal : goal.returns-clause-normal
returns-clause-normal c = normal_from_added _ _ _ _ c.in_ok-add_span.ensures

pub returns-clause-form : goal.returns-clause-form
returns-clause-form c = span_form _ _ _ _ c.new-cells.ensures.items c.in_ok-add_span.ensures

pub returns-clause-at_most : goal.returns-clause-at_most
returns-clause-at_most c =
    let range : IsLeafRange c.args.start c.args.limit = record {
      odd_start = omega arith;
      odd_limit = omega arith;
      positive = omega arith;
      rises = omega arith;
      on_curve = omega arith;
    } in
    few_added _ _ _ _ c.new-cells.ensures.items range c.in_ok-add_span.ensures
