-- No cells meet nothing, and the cells of a target meet what their union does.
use Rattle.std.proofs.Common.{◌∙◌, length, sym}
use Rattle.std.proofs.lemmas.Bool.{eqb-true}
use Rattle.s2ix_c_calls.specs.Lists.{labels_met}
use Rattle.s2ix_c_calls.proofs.MeetsTarget.{fills_labels}
use Rattle.s2ix_c_calls.proofs.NoCells.{fills_nothing, no_labels_met}
use Rattle.s2ix_c_calls.proofs.queries.labels.Goals as goal

pub returns-then-is_empty-clause-list : goal.returns-then-is_empty-clause-list
returns-then-is_empty-clause-list c =
    let none = eqb-true (length c.args.ids.now) 0 (sym c.is_empty.ensures ∙ c.if-is_empty.true) in
    fills_nothing c.args.out.now (λ cells. labels_met cells c.args.store.now) c.args.ids.now none (no_labels_met c.args.store.now)

pub returns-clause-list : goal.returns-clause-list
returns-clause-list c =
    let ask = c.ask in
    fills_labels c.args.ids.now c.args.store.now ask.result ask.new.number c.args.out.now ask.new.out ask.ensures
