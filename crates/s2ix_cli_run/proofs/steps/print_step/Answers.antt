-- The line's step is what the store told, and its answer went out, or a front of it. If memory was wanted, the refusal says that
-- nothing changed, and nothing was printed.
use Rattle.std.proofs.Common.{refl, sym, ap, ◌∙◌, subst, rules, arith}
use Rattle.std.proofs.KnownBytes.{Keeps-refl}
use Rattle.std.proofs.lemmas.Result.{err_from_is_err_and}
use Rattle.s2ix_text_parts.specs.declared.run_fault.RunFault.TheVariants.{Write}
use Rattle.s2ix_cli_run.specs.Line.{StopsAt, Takes}
use Rattle.s2ix_cli_run.specs.Step.{Step, no_step}
use Rattle.s2ix_cli_run.specs.declared.outcome.LineOutcome.TheVariants.{Accepted, Refused}
use Rattle.s2ix_cli_run.proofs.Names.{no_is_short, ok_is_short}
use Rattle.s2ix_cli_run.proofs.steps.print_step.Goals as goal

pub returns-in_err-write_ok-in-Ok-clause-memory : goal.returns-in_err-write_ok-in-Ok-clause-memory
returns-in_err-write_ok-in-Ok-clause-memory g c = search rules

pub returns-in_err-write_ok-in-Ok-clause-faults : goal.returns-in_err-write_ok-in-Ok-clause-faults
returns-in_err-write_ok-in-Ok-clause-faults g c = search rules

pub returns-in_default-clause-runs : goal.returns-in_default-clause-runs
returns-in_default-clause-runs g c = rw c.in-Err.is (λ step old new answered. (answered.0, Keeps-refl _))

pub returns-in_default-clause-memory : goal.returns-in_default-clause-memory
returns-in_default-clause-memory g c = search rules

pub returns-in_default-clause-faults : goal.returns-in_default-clause-faults
returns-in_default-clause-faults g c = search rules

pub returns-in_ok-write_ok-in-Ok-clause-runs : goal.returns-in_ok-write_ok-in-Ok-clause-runs
returns-in_ok-write_ok-in-Ok-clause-runs g c = rw c.in-Ok.is (λ step old new answered.
    subst (λ (s : Step). Takes s new (g.K.Sink.taken c.args.sink.now) (g.K.Sink.taken c.write_ok.new.sink) Accepted) (sym answered)
    (record { store = refl; output = c.in_ok-write_ok-in-Ok.ensures.puts; counted = refl; refused = refl }))

pub returns-in_err-write_ok-in-Ok-clause-runs : goal.returns-in_err-write_ok-in-Ok-clause-runs
returns-in_err-write_ok-in-Ok-clause-runs g c =
    let exit = c.from_residual in
    let p = err_from_is_err_and exit.result exit.ensures.1 in
    rw (c.in-Ok.is, p.1, p.2) (λ step old new answered.
    subst (λ (s : Step). StopsAt s old new (g.K.Sink.taken c.args.sink.now) (g.K.Sink.taken c.write_ok.new.sink) Write)
    (sym answered) (refl, c.in_err-write_ok-in-Ok.ensures.puts))

pub returns-in_ok-write_no-in-Err-clause-runs : goal.returns-in_ok-write_no-in-Err-clause-runs
returns-in_ok-write_no-in-Err-clause-runs g c = rw c.in-Err.is (λ step old new answered.
    let is = answered.1 (λ e. let none = c.in-Some.ensures.memory.1 e in cc) ∙ ap (no_step new) (sym c.in-Some.ensures.name) in
    subst (λ (s : Step). Takes s new (g.K.Sink.taken c.args.sink.now) (g.K.Sink.taken c.write_no.new.sink) Refused) (sym is)
    (record { store = refl; output = c.in_ok-write_no-in-Err.ensures.puts; counted = refl; refused = refl }))

pub returns-in_ok-write_ok-in-Ok-clause-memory : goal.returns-in_ok-write_ok-in-Ok-clause-memory
returns-in_ok-write_ok-in-Ok-clause-memory g c = search rules

pub returns-in_ok-write_ok-in-Ok-clause-faults : goal.returns-in_ok-write_ok-in-Ok-clause-faults
returns-in_ok-write_ok-in-Ok-clause-faults g c = search rules

pub returns-in_ok-write_no-in-Err-clause-memory : goal.returns-in_ok-write_no-in-Err-clause-memory
returns-in_ok-write_no-in-Err-clause-memory g c = search rules

pub returns-in_ok-write_no-in-Err-clause-faults : goal.returns-in_ok-write_no-in-Err-clause-faults
returns-in_ok-write_no-in-Err-clause-faults g c = search rules

pub returns-in_err-write_no-in-Err-clause-runs : goal.returns-in_err-write_no-in-Err-clause-runs
returns-in_err-write_no-in-Err-clause-runs g c =
    let exit = c.from_residual-in_err-write_no-in-Err in
    let p = err_from_is_err_and exit.result exit.ensures.1 in
    rw (c.in-Err.is, p.1, p.2) (λ step old new answered.
    let is = answered.1 (λ e. let none = c.in-Some.ensures.memory.1 e in cc) ∙ ap (no_step new) (sym c.in-Some.ensures.name) in
    subst (λ (s : Step). StopsAt s old new (g.K.Sink.taken c.args.sink.now) (g.K.Sink.taken c.write_no.new.sink) Write)
    (sym is) (refl, c.in_err-write_no-in-Err.ensures.puts))

pub returns-in_ok-write_ok-in-Ok-clause-short : goal.returns-in_ok-write_ok-in-Ok-clause-short
returns-in_ok-write_ok-in-Ok-clause-short g c = rw c.in-Ok.is (λ step old new answered other. ok_is_short step new _ (omega arith) answered)

pub returns-in_err-write_ok-in-Ok-clause-short : goal.returns-in_err-write_ok-in-Ok-clause-short
returns-in_err-write_ok-in-Ok-clause-short g c = rw c.in-Ok.is (λ step old new answered other. ok_is_short step new _ (omega arith) answered)

pub returns-in_default-clause-short : goal.returns-in_default-clause-short
returns-in_default-clause-short g c = λ step old new answered other. absurd (other refl)

pub returns-in_ok-write_no-in-Err-clause-short : goal.returns-in_ok-write_no-in-Err-clause-short
returns-in_ok-write_no-in-Err-clause-short g c = rw c.in-Err.is (λ step old new answered other.
    let is = answered.1 (λ e. let none = c.in-Some.ensures.memory.1 e in cc) ∙ ap (no_step new) (sym c.in-Some.ensures.name) in
    no_is_short step new _ c.in-Some.ensures.short is)

pub returns-in_err-write_no-in-Err-clause-short : goal.returns-in_err-write_no-in-Err-clause-short
returns-in_err-write_no-in-Err-clause-short g c = rw c.in-Err.is (λ step old new answered other.
    let is = answered.1 (λ e. let none = c.in-Some.ensures.memory.1 e in cc) ∙ ap (no_step new) (sym c.in-Some.ensures.name) in
    no_is_short step new _ c.in-Some.ensures.short is)
