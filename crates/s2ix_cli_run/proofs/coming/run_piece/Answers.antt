-- Line by line, and what is left is held.
use Rattle.std.proofs.Common.{◌≡◌, ◌∙◌, ◌&&◌, false, ap, sym, refl}
use Rattle.std.proofs.lemmas.Result.{err_from_is_err_and}
use Rattle.s2ix_cli_run.specs.Line.{is_refused}
use Rattle.s2ix_cli_run.proofs.Among.{Among-none, Among-on, Among-stopped, Among-fault, Among-end}
use Rattle.s2ix_cli_run.proofs.LineSteps.{plus_none}
use Rattle.s2ix_cli_run.proofs.coming.run_piece.Goals as goal
use Rattle.s2ix_cli_run.proofs.coming.run_piece.Goals.{else-stop-via-then-stop+else-is_refused, else-stop-via-else-stop}

pub lines-init : goal.lines-init
lines-init g c = (λ front is. Among-none _ front _ _ _ _ _ is, refl)

pub lines-preserved : goal.lines-preserved
lines-preserved g c =
    let on : c.args.stop && is_refused c.in_ok-outcome.outcome ≡ false = elim c.else-stop.branch [
      | else-stop-via-then-stop+else-is_refused w ↦ ap (λ b. c.args.stop && b) (sym w.is_refused.ensures ∙ w.if-is_refused.false)
          ∙ ap (λ b. b && false) w.if-stop.true
      | else-stop-via-else-stop w ↦ ap (λ b. b && is_refused c.in_ok-outcome.outcome) w.if-stop.false
    ] in (
      λ front is. (let a = c.lines.invariant.0 front is in
          Among-on _ front _ _ _ _ _ _ _ _ _ _ _ _ _ _ _ a (record { is = c.in-Some.ensures.some.0; none = c.in-Some.ensures.some.1 })
          (record {
            takes = c.in_ok-outcome.ensures.runs a.come a.is_held;
            lines = c.with-so_far.ensures.lines;
            refused = c.with-so_far.ensures.refused;
          })
          on _ c.in_ok-outcome.ensures.held),
      c.in_ok-outcome.ensures.faults ∙ plus_none _ ∙ c.lines.invariant.1,
    )

pub returns-then-is_refused-clause-runs : goal.returns-then-is_refused-clause-runs
returns-then-is_refused-clause-runs g c = λ front is.
    let a = c.lines.invariant.0 front is in
    Among-stopped _ front _ _ _ _ _ _ _ _ _ _ _ _ _ _ _ a (record { is = c.in-Some.ensures.some.0; none = c.in-Some.ensures.some.1 })
    (record {
      takes = c.in_ok-outcome.ensures.runs a.come a.is_held;
      lines = c.with-so_far.ensures.lines;
      refused = c.with-so_far.ensures.refused;
    })
    c.if-stop.true (sym c.is_refused.ensures ∙ c.if-is_refused.true)

pub returns-in_err-outcome-clause-runs : goal.returns-in_err-outcome-clause-runs
returns-in_err-outcome-clause-runs g c = λ front is.
    let a = c.lines.invariant.0 front is in
    let p = err_from_is_err_and c.from_residual.result c.from_residual.ensures.1 in
    rw (p.1, p.2)
    (Among-fault _ _ front _ _ _ _ _ _ _ _ _ _ _ _ _ a (record { is = c.in-Some.ensures.some.0; none = c.in-Some.ensures.some.1 })
    (c.in_err-outcome.ensures.runs a.come a.is_held) (c.in_err-outcome.ensures.memory a.come a.is_held))

pub returns-clause-runs : goal.returns-clause-runs
returns-clause-runs g c =
    λ front is. Among-end _ front _ _ _ _ _ _ _ _ _ _ (c.lines.invariant.0 front is) c.in_default.ensures.none c.push.ensures
