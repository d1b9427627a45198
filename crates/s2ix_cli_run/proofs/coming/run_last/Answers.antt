-- What is held at the end is the last line, if it has a byte.
use Rattle.std.proofs.Common.{◌∙◌, sym, true≢false}
use Rattle.std.proofs.lemmas.Result.{err_from_is_err_and}
use Rattle.s2ix_cli_run.proofs.Among.{RunsLast-fault}
use Rattle.s2ix_cli_run.proofs.coming.run_last.Goals as goal

pub returns-in_err-outcome-clause-runs : goal.returns-in_err-outcome-clause-runs
returns-in_err-outcome-clause-runs g c = λ stop front is.
    let p = err_from_is_err_and c.from_residual.result c.from_residual.ensures.1 in
    rw (p.1, p.2) (RunsLast-fault _ stop front _ _ _ _ (λ e. true≢false (sym (c.if-is_empty.ensures.1 (is ∙ sym e))))
    (c.in_err-outcome.ensures.runs front is) (c.in_err-outcome.ensures.memory front is))
