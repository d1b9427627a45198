use Rattle.std.proofs.Common.{false}
use Rattle.std.proofs.lemmas.Result.{err_from_is_err_and}
use Rattle.s2ix_cli_files.specs.Answers.{IsRefusalAnswer}
use Rattle.s2ix_cli_files.proofs.Printed.{refused_so, some_refusal, printed_front, printed_unflushed, printed_whole}
use Rattle.s2ix_cli_files.proofs.printing.print_refusal.Goals as goal

pub returns-in_err-write_refusal-in-Refused-clause-answered :
    goal.returns-in_err-write_refusal-in-Refused-clause-answered
returns-in_err-write_refusal-in-Refused-clause-answered g c =
    let p = err_from_is_err_and c.from_residual.result c.from_residual.ensures.1 in
    let so = refused_so c.args.error c.in-Refused.refusal c.in-Refused.is in
    rw (p.1, p.2) (printed_front g.K.Sink (IsRefusalAnswer c.args.error) false so c.in_err-write_refusal-in-Refused.ensures)

pub returns-in_err-flush-in-Refused-clause-answered : goal.returns-in_err-flush-in-Refused-clause-answered
returns-in_err-flush-in-Refused-clause-answered g c =
    let exit = c.from_residual-in_err-flush-in-Refused in
    let p = err_from_is_err_and exit.result exit.ensures.1 in
    let so = refused_so c.args.error c.in-Refused.refusal c.in-Refused.is in
    rw (p.1, p.2) (printed_unflushed g.K.Sink (IsRefusalAnswer c.args.error) false so c.in_ok-write_refusal-in-Refused.ensures
    c.in_err-flush-in-Refused.ensures.bytes)

pub returns-in_ok-flush-in-Refused-clause-answered : goal.returns-in_ok-flush-in-Refused-clause-answered
returns-in_ok-flush-in-Refused-clause-answered g c =
    let so = refused_so c.args.error c.in-Refused.refusal c.in-Refused.is in
    let flush = c.in_ok-flush-in-Refused.ensures in
    printed_whole g.K.Sink (IsRefusalAnswer c.args.error) false (some_refusal c.in-Refused.refusal) so c.in_ok-write_refusal-in-Refused.ensures
    flush.call flush.bytes
