use Rattle.std.proofs.Common.{Ok, Err, false, refl}
use Rattle.std.proofs.lemmas.Result.{err_from_is_err_and}
use Rattle.s2ix_cli_files.specs.Answers.{IsRefusalAnswer, ResumeAnswers, no_text}
use Rattle.s2ix_cli_files.specs.Reads.{TextsRewind}
use Rattle.s2ix_cli_files.proofs.Outcomes.{value_answer, refusal_answer, printed_refused}
use Rattle.s2ix_cli_files.proofs.Printed.{printed_as}
use Rattle.s2ix_cli_files.proofs.resume.resume_texts.Goals as goal

pub returns-in-Ok-clause-answered : goal.returns-in-Ok-clause-answered
returns-in-Ok-clause-answered g c =
    let first = c.in-Ok.ensures.first in
    (_, value_answer no_text (TextsRewind c.args.limits c.args.dump.now c.args.journal.now) first.0 first.1, refl, refl)

pub returns-in_err-print_refusal-in-Err-clause-answered : goal.returns-in_err-print_refusal-in-Err-clause-answered
returns-in_err-print_refusal-in-Err-clause-answered g c =
    let p = err_from_is_err_and c.from_residual.result c.from_residual.ensures.1 in
    let as_answer =
    refusal_answer no_text (TextsRewind c.args.limits c.args.dump.now c.args.journal.now) c.in-Err.error c.in-Err.ensures.refused in
    rw (p.1, p.2) (printed_as g.K.Sink (IsRefusalAnswer c.in-Err.error) (ResumeAnswers c.args.limits c.args.dump.now c.args.journal.now)
    c.args.sink.now c.print_refusal.new.sink (Err c.in_err-print_refusal-in-Err.field-0.0) as_answer
    c.in_err-print_refusal-in-Err.ensures.answered)

pub returns-in_ok-print_refusal-in-Err-clause-answered : goal.returns-in_ok-print_refusal-in-Err-clause-answered
returns-in_ok-print_refusal-in-Err-clause-answered g c =
    let as_answer =
    refusal_answer no_text (TextsRewind c.args.limits c.args.dump.now c.args.journal.now) c.in-Err.error c.in-Err.ensures.refused in
    let answered =
    printed_refused g.K.Sink c.in-Err.error c.args.sink.now c.print_refusal.new.sink c.in_ok-print_refusal-in-Err.field-0
    c.in_ok-print_refusal-in-Err.ensures.answered in
    printed_as g.K.Sink (IsRefusalAnswer c.in-Err.error) (ResumeAnswers c.args.limits c.args.dump.now c.args.journal.now) c.args.sink.now
    c.print_refusal.new.sink (Ok false) as_answer answered
