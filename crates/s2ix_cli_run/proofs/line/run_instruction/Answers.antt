-- A step is what the store's answer tells, and memory is wanted when that says so. A `meet` is what its own call tells.
use Rattle.std.proofs.Common.{refl, rules, arith}
use Rattle.std.proofs.lemmas.Result.{IfErr-weaker}
use Rattle.s2ix_cli_run.proofs.Names.{ok_is_short}
use Rattle.s2ix_cli_run.proofs.Answered.{edit_is_answered, redo_is_answered, undo_is_answered}
use Rattle.s2ix_cli_run.proofs.WantedMemory.{edit_wants}
use Rattle.s2ix_cli_run.proofs.line.run_instruction.Goals as goal

pub returns-in-Edit-clause-runs : goal.returns-in-Edit-clause-runs
returns-in-Edit-clause-runs g c =
    let answered = c.edit.ensures in
    rw c.in-Edit.is (c.print_step.ensures.runs _ _ _
    (edit_is_answered _ _ _ _ answered.accepted answered.state answered.number answered.refused answered.unchanged))

pub returns-in-Edit-clause-memory : goal.returns-in-Edit-clause-memory
returns-in-Edit-clause-memory g c =
    let answered = c.edit.ensures in
    rw c.in-Edit.is (IfErr-weaker c.print_step.result _ _
    (λ fault wants is. edit_wants _ _ _ answered.refused answered.nothing answered.reverting (wants is)) c.print_step.ensures.memory)

pub returns-in-Undo-clause-runs : goal.returns-in-Undo-clause-runs
returns-in-Undo-clause-runs g c =
    let answered = c.undo.ensures in
    rw c.in-Undo.is (c.print_step-in-Undo.ensures.runs _ _ _ (undo_is_answered _ _ _ answered.nothing answered.state answered.number answered.unchanged))

pub returns-in-Redo-clause-runs : goal.returns-in-Redo-clause-runs
returns-in-Redo-clause-runs g c =
    let answered = c.redo.ensures in
    rw c.in-Redo.is (c.print_step-in-Redo.ensures.runs _ _ _ (redo_is_answered _ _ _ answered.nothing answered.state answered.number answered.unchanged))

pub returns-in-Meet-clause-runs : goal.returns-in-Meet-clause-runs
returns-in-Meet-clause-runs g c = search rules

pub returns-in-Meet-clause-memory : goal.returns-in-Meet-clause-memory
returns-in-Meet-clause-memory g c = search rules

pub returns-in-Edit-clause-short : goal.returns-in-Edit-clause-short
returns-in-Edit-clause-short g c =
    let answered = c.edit.ensures in
    rw c.in-Edit.is (λ step. c.print_step.ensures.short _ _ _
    (edit_is_answered _ _ _ _ answered.accepted answered.state answered.number answered.refused answered.unchanged))

pub returns-in-Undo-clause-short : goal.returns-in-Undo-clause-short
returns-in-Undo-clause-short g c =
    let answered = c.undo.ensures in
    rw c.in-Undo.is (λ step. c.print_step-in-Undo.ensures.short _ _ _
    (undo_is_answered _ _ _ answered.nothing answered.state answered.number answered.unchanged))

pub returns-in-Redo-clause-short : goal.returns-in-Redo-clause-short
returns-in-Redo-clause-short g c =
    let answered = c.redo.ensures in
    rw c.in-Redo.is (λ step. c.print_step-in-Redo.ensures.short _ _ _
    (redo_is_answered _ _ _ answered.nothing answered.state answered.number answered.unchanged))

pub returns-in_ok-write_ok-in-Forget-clause-short : goal.returns-in_ok-write_ok-in-Forget-clause-short
returns-in_ok-write_ok-in-Forget-clause-short g c =
    rw c.in-Forget.is (λ step other. ok_is_short _ c.args.store.now 0 (omega arith) refl)

pub returns-in_err-write_ok-in-Forget-clause-short : goal.returns-in_err-write_ok-in-Forget-clause-short
returns-in_err-write_ok-in-Forget-clause-short g c =
    rw c.in-Forget.is (λ step other. ok_is_short _ c.args.store.now 0 (omega arith) refl)
