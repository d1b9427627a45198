use Rattle.s2ix_bag_pairs.specs.declared.limits.Limits.{Limits}
use Rattle.s2ix_text_parts.specs.LineFaults.{IsFromLine}
use Rattle.s2ix_text.specs.DumpFaults.{dump_fault}
use Rattle.s2ix_cli_files.specs.Answers.{Answer, IsChangeAnswer, DiffAnswers, journal_of}
use Rattle.s2ix_cli_files.specs.Reads.{TextsDiffer}
use Rattle.s2ix_cli_files.specs.Widest.{widest}
use Rattle.s2ix_cli_files.proofs.Outcomes.{outcome_answer, want_as, wanted_so}
use Rattle.s2ix_cli_files.proofs.Printed.{printed_as}
use Rattle.s2ix_cli_files.proofs.Widest.{as_widest}
use Rattle.s2ix_cli_files.proofs.diff.diff_texts.Goals as goal

pub returns-clause-answered : goal.returns-clause-answered
returns-clause-answered g c =
    let limits = c.default.result in
    let made = c.texts_compared in
    let as_answer = outcome_answer journal_of (TextsDiffer limits c.args.first.now c.args.second.now) made.result made.ensures.change made.ensures.refused in
    let as_widest_answer =
    as_widest (λ (l : Limits). (answer : Answer) → IsChangeAnswer made.result answer
    → DiffAnswers l c.args.first.now c.args.second.now answer) limits c.default.ensures as_answer in
    printed_as g.K.Sink (IsChangeAnswer made.result) (DiffAnswers widest c.args.first.now c.args.second.now) c.args.sink.now
    c.print_change.new.sink c.print_change.result as_widest_answer c.print_change.ensures.answered

pub returns-clause-memory : goal.returns-clause-memory
returns-clause-memory g c =
    let made = c.texts_compared in
    want_as c.print_change.result _ _
    (λ is. as_widest (λ (l : Limits). IsFromLine 2 (dump_fault l c.args.first.now)) c.default.result c.default.ensures
    (wanted_so made.result _ made.ensures.memory is)) c.print_change.ensures.memory
