use Rattle.std.proofs.Common.{true}
use Rattle.std.proofs.lemmas.Result.{err_from_is_err_and}
use Rattle.s2ix_cli_files.specs.Answers.{IsDumpAnswer, dump_of}
use Rattle.s2ix_cli_files.proofs.Outcomes.{printed_so, some_dump}
use Rattle.s2ix_cli_files.proofs.Printed.{printed_front, printed_unflushed, printed_whole}
use Rattle.s2ix_cli_files.proofs.printing.print_dump.Goals as goal

pub returns-in_err-write_dump-in-Ok-clause-answered : goal.returns-in_err-write_dump-in-Ok-clause-answered
returns-in_err-write_dump-in-Ok-clause-answered g c =
    let p = err_from_is_err_and c.from_residual.result c.from_residual.ensures.1 in
    let so = printed_so dump_of c.args.outcome c.in-Ok.bag c.in-Ok.is in
    rw (p.1, p.2) (printed_front g.K.Sink (IsDumpAnswer c.args.outcome) true so c.in_err-write_dump-in-Ok.ensures)

pub returns-in_err-flush-in-Ok-clause-answered : goal.returns-in_err-flush-in-Ok-clause-answered
returns-in_err-flush-in-Ok-clause-answered g c =
    let exit = c.from_residual-in_err-flush-in-Ok in
    let p = err_from_is_err_and exit.result exit.ensures.1 in
    let so = printed_so dump_of c.args.outcome c.in-Ok.bag c.in-Ok.is in
    rw (p.1, p.2) (printed_unflushed g.K.Sink (IsDumpAnswer c.args.outcome) true so c.in_ok-write_dump-in-Ok.ensures
    c.in_err-flush-in-Ok.ensures.bytes)

pub returns-in_ok-flush-in-Ok-clause-answered : goal.returns-in_ok-flush-in-Ok-clause-answered
returns-in_ok-flush-in-Ok-clause-answered g c =
    let so = printed_so dump_of c.args.outcome c.in-Ok.bag c.in-Ok.is in
    let flush = c.in_ok-flush-in-Ok.ensures in
    printed_whole g.K.Sink (IsDumpAnswer c.args.outcome) true (some_dump c.in-Ok.bag) so c.in_ok-write_dump-in-Ok.ensures flush.call
    flush.bytes
