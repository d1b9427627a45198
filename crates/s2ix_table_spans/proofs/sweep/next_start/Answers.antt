use Rattle.std.proofs.Common.{get_or, sym, ◌∙◌, ap, arith}
use Rattle.std.proofs.lemmas.Option.{slice_get_past, slice_get-get_or}
use Rattle.std.proofs.lemmas.List.Elements.{Contains-get_or}
use Rattle.s2id_core.specs.declared.cell_id.CellId.{CellId}
use Rattle.s2id_core.specs.CellId.{first_of}
use Rattle.s2ix_bag_pairs.specs.declared.pair.Held.{Held}
use Rattle.s2ix_table_spans.proofs.Sweeping.{start_is, start_end}
use Rattle.s2ix_table_spans.proofs.sweep.next_start.Goals as goal

pub bounds-held-order : goal.bounds-held-order
bounds-held-order c =
    c.requires (get_or c.args.order.now c.args.k 0) (Contains-get_or c.args.order.now c.args.k 0 c.if-k-order.true)

pub returns-then-k-order : goal.returns-then-k-order
returns-then-k-order c =
    let order = c.args.order.now in
    let held = c.args.held.now in
    let k = c.args.k in
    let p = get_or order k 0 in
    let lt = c.requires p (Contains-get_or order k 0 c.if-k-order.true) in
    let x = c.index-held-order.result in
    c.span_start.ensures ∙ ap (λ (y : CellId). first_of y) c.cell.ensures ∙ ap (λ (y : Held). first_of y.pair.cell) c.index-held-order.is ∙ sym (start_is held order c.args.to k p (get_or held p x) (slice_get-get_or order k 0 c.if-k-order.true) (slice_get-get_or held p x lt))

pub returns-else-k-order : goal.returns-else-k-order
returns-else-k-order c =
    sym (start_end c.args.held.now c.args.order.now c.args.to c.args.k (slice_get_past c.args.order.now c.args.k (omega (arith, c.if-k-order.false))))
