-- The difference is that of the two labels' regions.
use Rattle.std.proofs.Common.{◌&&◌, not, List, ap, ◌∙◌, rules}
use Rattle.std.proofs.lemmas.Result.{IfOk-weaker}
use Rattle.s2id_core.specs.declared.cell_id.CellId.{CellId}
use Rattle.s2id_union.specs.NormalForm.{cells_where, is_covered}
use Rattle.s2ix_edit_plan.specs.Region.{region_of}
use Rattle.s2ix_cli_run.proofs.regions.only.Goals as goal

pub returns-in_err-first : goal.returns-in_err-first
returns-in_err-first g c = search rules

pub returns-in_err-second : goal.returns-in_err-second
returns-in_err-second g c = search rules

pub returns : goal.returns
returns g c =
    let first = region_of c.args.first c.args.store.now.bag.held in
    IfOk-weaker c.difference.result _ _
    (λ union is.
    is ∙ ap (λ (cells : List CellId). cells_where (λ q. is_covered cells q && not (is_covered c.in_ok-second.second q)))
    c.in_ok-first.ensures.form
    ∙ ap (λ (cells : List CellId). cells_where (λ q. is_covered first q && not (is_covered cells q))) c.in_ok-second.ensures.form)
    c.difference.ensures.form
