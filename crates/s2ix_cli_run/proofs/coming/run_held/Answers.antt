-- A line that is too long prints so, and changes nothing.
use Rattle.std.proofs.Common.{◌∙◌, ap, sym}
use Rattle.std.proofs.lemmas.Result.{err_from_is_err_and}
use Rattle.s2ix_cli_run.specs.Step.{no_step}
use Rattle.s2ix_cli_run.proofs.Holding.{kept_of-none, Takes-no, StopsAt-no}
use Rattle.s2ix_cli_run.proofs.coming.run_held.Goals as goal

pub returns-in_ok-write_no-in-None-clause-runs : goal.returns-in_ok-write_no-in-None-clause-runs
returns-in_ok-write_no-in-None-clause-runs g c = λ line is.
    let step = kept_of-none c.args.store.now line (sym c.in-None.ensures.none ∙ is) ∙ ap (no_step c.args.store.now) (sym c.name.ensures) in
    Takes-no _ _ c.name.result.now _ _ step c.in_ok-write_no-in-None.ensures.puts

pub returns-in_err-write_no-in-None-clause-runs : goal.returns-in_err-write_no-in-None-clause-runs
returns-in_err-write_no-in-None-clause-runs g c = λ line is.
    let step = kept_of-none c.args.store.now line (sym c.in-None.ensures.none ∙ is) ∙ ap (no_step c.args.store.now) (sym c.name.ensures) in
    let p = err_from_is_err_and c.from_residual.result c.from_residual.ensures.1 in
    rw (p.1, p.2) (StopsAt-no _ _ c.name.result.now _ _ step c.in_err-write_no-in-None.ensures.puts)
