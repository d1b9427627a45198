use Rattle.std.proofs.Common.{sym, subst, arith}
use Rattle.std.proofs.lemmas.Bool.{false≢true}
use Rattle.s2id_union.specs.Loops.{IsGreatest}
use Rattle.s2id_union.proofs.Greatest.{least_of, some_fit, greatest_shifted}
use Rattle.s2id_union.proofs.span.greatest_at.Goals as goal

pub overflow_sub-height : goal.overflow_sub-height
overflow_sub-height c =
    some_fit c.args.at c.args.limit c.ilog2-wide.result c.min-fit.result c.requires.odd c.requires.odd_limit c.requires.some c.ilog2-wide.ensures.power_le c.ilog2-wide.ensures.next_power_gt (least_of _ _ _ _ _ c.min.ensures c.min-fit.ensures)

pub overflow_add-at : goal.overflow_add-at
overflow_add-at c =
    let cell = greatest_shifted c.args.at c.args.limit c.ilog2-wide.result c.min-fit.result c.requires.odd c.requires.odd_limit c.requires.some c.requires.on_curve c.ilog2-wide.ensures.power_le c.ilog2-wide.ensures.next_power_gt (least_of _ _ _ _ _ c.min.ensures c.min-fit.ensures) in
    let below = cell.0.0 in
    omega arith

pub unreachable-requires : goal.unreachable-requires
unreachable-requires c =
    let cell = greatest_shifted c.args.at c.args.limit c.ilog2-wide.result c.min-fit.result c.requires.odd c.requires.odd_limit c.requires.some c.requires.on_curve c.ilog2-wide.ensures.power_le c.ilog2-wide.ensures.next_power_gt (least_of _ _ _ _ _ c.min.ensures c.min-fit.ensures) in
    false≢true (c.in-None.ensures.found.1 cell.0)

pub returns : goal.returns
returns c =
    let cell = greatest_shifted c.args.at c.args.limit c.ilog2-wide.result c.min-fit.result c.requires.odd c.requires.odd_limit c.requires.some c.requires.on_curve c.ilog2-wide.ensures.power_le c.ilog2-wide.ensures.next_power_gt (least_of _ _ _ _ _ c.min.ensures c.min-fit.ensures) in
    subst (λ n. IsGreatest n c.args.at c.args.limit) (sym c.in-Some.ensures.number) cell.1
