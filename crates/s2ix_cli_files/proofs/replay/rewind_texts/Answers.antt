use Rattle.s2ix_bag_pairs.specs.declared.limits.Limits.{Limits}
use Rattle.s2ix_text_parts.specs.LineFaults.{IsFromLine}
use Rattle.s2ix_text.specs.DumpFaults.{dump_fault}
use Rattle.s2ix_cli_files.specs.Answers.{Answer, IsDumpAnswer, RewindAnswers, dump_of}
use Rattle.s2ix_cli_files.specs.Reads.{TextsRewind}
use Rattle.s2ix_cli_files.specs.Widest.{widest}
use Rattle.s2ix_cli_files.proofs.Outcomes.{outcome_answer, want_as, wanted_so}
use Rattle.s2ix_cli_files.proofs.Printed.{printed_as}
use Rattle.s2ix_cli_files.proofs.Widest.{as_widest}
use Rattle.s2ix_cli_files.proofs.replay.rewind_texts.Goals as goal

pub returns-clause-answered : goal.returns-clause-answered
returns-clause-answered g c =
    let limits = c.default.result in
    let made = c.texts_rewound in
    let as_answer = outcome_answer dump_of (TextsRewind limits c.args.dump.now c.args.journal.now) made.result made.ensures.bag made.ensures.refused in
    let as_widest_answer =
    as_widest (λ (l : Limits). (answer : Answer) → IsDumpAnswer made.result answer
    → RewindAnswers l c.args.dump.now c.args.journal.now answer) limits c.default.ensures as_answer in
    printed_as g.K.Sink (IsDumpAnswer made.result) (RewindAnswers widest c.args.dump.now c.args.journal.now) c.args.sink.now
    c.print_dump.new.sink c.print_dump.result as_widest_answer c.print_dump.ensures.answered

pub returns-clause-memory : goal.returns-clause-memory
returns-clause-memory g c =
    let made = c.texts_rewound in
    want_as c.print_dump.result _ _
    (λ is. as_widest (λ (l : Limits). IsFromLine 2 (dump_fault l c.args.dump.now)) c.default.result c.default.ensures
    (wanted_so made.result _ made.ensures.memory is)) c.print_dump.ensures.memory
