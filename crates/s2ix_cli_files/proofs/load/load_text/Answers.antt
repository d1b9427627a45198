use Rattle.std.proofs.Common.{ℕ, Option, Ok, Err, false, refl, sym, subst}
use Rattle.std.proofs.lemmas.Result.{err_from_is_err_and}
use Rattle.s2ix_text_parts.specs.LineFaults.{IsFromLine}
use Rattle.s2ix_text.specs.declared.dump_error.DumpFault.{DumpFault}
use Rattle.s2ix_cli_files.specs.Answers.{IsRefusalAnswer, LoadAnswers, no_text}
use Rattle.s2ix_cli_files.specs.Reads.{DumpReads}
use Rattle.s2ix_cli_files.proofs.Outcomes.{value_answer, refusal_answer, printed_refused}
use Rattle.s2ix_cli_files.proofs.Printed.{printed_as}
use Rattle.s2ix_cli_files.proofs.load.load_text.Goals as goal

pub returns-in_err-store-in-Ok-clause-memory : goal.returns-in_err-store-in-Ok-clause-memory
returns-in_err-store-in-Ok-clause-memory g c =
    let p = err_from_is_err_and c.from_residual.result c.from_residual.ensures.1 in
    rw p.1 (λ wanted. subst (λ (found : Option (ℕ × DumpFault)). IsFromLine 2 found) (sym c.in-Ok.ensures.accepted) tt)

pub returns-in_err-print_refusal-in-Err-clause-answered : goal.returns-in_err-print_refusal-in-Err-clause-answered
returns-in_err-print_refusal-in-Err-clause-answered g c =
    let exit = c.from_residual-in_err-print_refusal-in-Err in
    let p = err_from_is_err_and exit.result exit.ensures.1 in
    let as_answer = refusal_answer no_text (DumpReads c.args.limits c.args.text.now) c.in-Err.error c.in-Err.ensures.refused in
    rw (p.1, p.2) (printed_as g.K.Sink (IsRefusalAnswer c.in-Err.error) (LoadAnswers c.args.limits c.args.text.now) c.args.sink.now
    c.print_refusal.new.sink (Err c.in_err-print_refusal-in-Err.field-0.0) as_answer c.in_err-print_refusal-in-Err.ensures.answered)

pub returns-in_ok-store-in-Ok-clause-answered : goal.returns-in_ok-store-in-Ok-clause-answered
returns-in_ok-store-in-Ok-clause-answered g c =
    (_, value_answer no_text (DumpReads c.args.limits c.args.text.now) c.in-Ok.bag c.in-Ok.ensures.bag, refl, refl)

pub returns-in_ok-print_refusal-in-Err-clause-answered : goal.returns-in_ok-print_refusal-in-Err-clause-answered
returns-in_ok-print_refusal-in-Err-clause-answered g c =
    let as_answer = refusal_answer no_text (DumpReads c.args.limits c.args.text.now) c.in-Err.error c.in-Err.ensures.refused in
    let answered =
    printed_refused g.K.Sink c.in-Err.error c.args.sink.now c.print_refusal.new.sink c.in_ok-print_refusal-in-Err.field-0
    c.in_ok-print_refusal-in-Err.ensures.answered in
    printed_as g.K.Sink (IsRefusalAnswer c.in-Err.error) (LoadAnswers c.args.limits c.args.text.now) c.args.sink.now c.print_refusal.new.sink
    (Ok false) as_answer answered
