use Rattle.std.proofs.Common.{◌-◌, get_or, sym, ◌∙◌, ap, arith}
use Rattle.std.proofs.lemmas.Option.{slice_get-get_or}
use Rattle.s2id_core.specs.declared.cell_id.CellId.{CellId}
use Rattle.s2id_core.specs.CellId.{end_of}
use Rattle.s2ix_bag_pairs.specs.declared.pair.Held.{Held}
use Rattle.s2ix_table_walk.proofs.Over.{span_of}
use Rattle.s2ix_table_spans.proofs.Orders.{at_is}
use Rattle.s2ix_table_spans.proofs.sweep.last_in.Goals as goal

pub overflow_sub-result : goal.overflow_sub-result
overflow_sub-result c =
    let held = c.args.held.now in
    let e = c.span_end.ensures ∙ ap (λ (y : CellId). end_of y) c.cell.ensures ∙ ap (λ (y : Held). end_of y.pair.cell) c.index-held-place.is in
    let rises = (span_of (get_or held c.args.place c.index-held-place.result)).rises in
    omega arith

pub returns : goal.returns
returns c =
    let held = c.args.held.now in
    let place = c.args.place in
    let x = c.index-held-place.result in
    let e = c.span_end.ensures ∙ ap (λ (y : CellId). end_of y) c.cell.ensures ∙ ap (λ (y : Held). end_of y.pair.cell) c.index-held-place.is in
    ap (λ n. n - 1) e ∙ sym (at_is (λ h. end_of h.pair.cell - 1) held place (get_or held place x) (slice_get-get_or held place x c.requires))
