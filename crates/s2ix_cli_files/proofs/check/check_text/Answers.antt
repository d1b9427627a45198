use Rattle.std.proofs.Common.{true, Ok}
use Rattle.std.proofs.lemmas.Result.{err_from_is_err_and}
use Rattle.s2ix_bag_pairs.specs.declared.limits.Limits.{Limits}
use Rattle.s2ix_text_parts.specs.LineFaults.{IsFromLine}
use Rattle.s2ix_text.specs.DumpFaults.{dump_fault}
use Rattle.s2ix_cli_files.specs.Answers.{CheckAnswers, IsRefusalAnswer, counts_line}
use Rattle.s2ix_cli_files.specs.Reads.{DumpReads}
use Rattle.s2ix_cli_files.specs.Refusals.{IsRefusedBy}
use Rattle.s2ix_cli_files.specs.Widest.{widest}
use Rattle.s2ix_cli_files.proofs.Outcomes.{value_answer, refusal_answer, some_counts, want_as}
use Rattle.s2ix_cli_files.proofs.Printed.{printed_as, printed_front, printed_unflushed, printed_whole}
use Rattle.s2ix_cli_files.proofs.Widest.{as_widest}
use Rattle.s2ix_cli_files.proofs.check.check_text.Goals as goal

pub returns-in_err-write_counts-in-Ok-clause-answered : goal.returns-in_err-write_counts-in-Ok-clause-answered
returns-in_err-write_counts-in-Ok-clause-answered g c =
    let p = err_from_is_err_and c.from_residual.result c.from_residual.ensures.1 in
    let reads =
    as_widest (λ (l : Limits). DumpReads l c.args.text.now (Ok c.in-Ok.bag)) c.default.result c.default.ensures c.in-Ok.ensures.bag in
    let is = value_answer counts_line (DumpReads widest c.args.text.now) c.in-Ok.bag reads in
    rw (p.1, p.2) (printed_front g.K.Sink (CheckAnswers widest c.args.text.now) true is c.in_err-write_counts-in-Ok.ensures)

pub returns-in_err-flush-in-Ok-clause-answered : goal.returns-in_err-flush-in-Ok-clause-answered
returns-in_err-flush-in-Ok-clause-answered g c =
    let exit = c.from_residual-in_err-flush-in-Ok in
    let p = err_from_is_err_and exit.result exit.ensures.1 in
    let reads =
    as_widest (λ (l : Limits). DumpReads l c.args.text.now (Ok c.in-Ok.bag)) c.default.result c.default.ensures c.in-Ok.ensures.bag in
    let is = value_answer counts_line (DumpReads widest c.args.text.now) c.in-Ok.bag reads in
    rw (p.1, p.2) (printed_unflushed g.K.Sink (CheckAnswers widest c.args.text.now) true is c.in_ok-write_counts-in-Ok.ensures
    c.in_err-flush-in-Ok.ensures.bytes)

pub returns-in_ok-flush-in-Ok-clause-answered : goal.returns-in_ok-flush-in-Ok-clause-answered
returns-in_ok-flush-in-Ok-clause-answered g c =
    let reads =
    as_widest (λ (l : Limits). DumpReads l c.args.text.now (Ok c.in-Ok.bag)) c.default.result c.default.ensures c.in-Ok.ensures.bag in
    let is = value_answer counts_line (DumpReads widest c.args.text.now) c.in-Ok.bag reads in
    let flush = c.in_ok-flush-in-Ok.ensures in
    printed_whole g.K.Sink (CheckAnswers widest c.args.text.now) true (some_counts c.in-Ok.bag) is c.in_ok-write_counts-in-Ok.ensures
    flush.call flush.bytes

pub returns-in-Err-clause-answered : goal.returns-in-Err-clause-answered
returns-in-Err-clause-answered g c =
    let refused =
    as_widest (λ (l : Limits). IsRefusedBy (DumpReads l c.args.text.now) c.in-Err.error) c.default.result c.default.ensures
    c.in-Err.ensures.refused in
    let as_answer = refusal_answer counts_line (DumpReads widest c.args.text.now) c.in-Err.error refused in
    printed_as g.K.Sink (IsRefusalAnswer c.in-Err.error) (CheckAnswers widest c.args.text.now) c.args.sink.now c.print_refusal.new.sink
    c.print_refusal.result as_answer c.print_refusal.ensures.answered

pub returns-in-Err-clause-memory : goal.returns-in-Err-clause-memory
returns-in-Err-clause-memory g c =
    want_as c.print_refusal.result _ _
    (λ is. as_widest (λ (l : Limits). IsFromLine 2 (dump_fault l c.args.text.now)) c.default.result c.default.ensures
    (c.in-Err.ensures.memory is)) c.print_refusal.ensures.memory
