-- What carrying a line out comes to.
use Rattle.std.specs.Prelude.{◌≡◌, ◌≢◌, ◌≤◌, ℕ, Bool, true, false, Option, Result, Ok, Err, List, length}
use Rattle.std.specs.Io.KnownBytes.{Appends, Keeps}
use Rattle.s2ix_edit_plan.specs.State.{State}
use Rattle.s2ix_text_parts.specs.Puts.{AppendsFront}
use Rattle.s2ix_cli_run.specs.declared.outcome.LineOutcome.{LineOutcome}
use Rattle.s2ix_cli_run.specs.declared.outcome.LineOutcome.TheVariants.{PassedOver, Accepted, Refused}
use Rattle.s2ix_text_parts.specs.declared.run_fault.RunFault.{RunFault}
use Rattle.s2ix_text_parts.specs.declared.run_fault.RunFault.TheVariants.{Read, Write, OutOfMemory, ReaderTooLong}
use Rattle.s2ix_cli_run.specs.Step.{Step, no_step, ok_step}

-- whether a line counts
abbrev pub is_counted : LineOutcome → Bool
is_counted PassedOver = false
is_counted Accepted = true
is_counted Refused = true

-- whether a line is refused
abbrev pub is_refused : LineOutcome → Bool
is_refused PassedOver = false
is_refused Accepted = false
is_refused Refused = true

-- a step was taken: the store stands after it, its whole answer went out, and the outcome says how it counts
pub record Takes (step : Step) (new : State) (before written : Option (List ℕ)) (outcome : LineOutcome) : Type 0 where
  pub store : new ≡ step.after
  pub output : Appends before written step.answer
  pub counted : is_counted outcome ≡ step.is_counted
  pub refused : is_refused outcome ≡ step.is_refused

-- a fault ended a step: for want of memory nothing changed and nothing went out; after a fault of the sink the
-- step was taken, and a front of its answer went out
abbrev pub StopsAt : Step → State → State → Option (List ℕ) → Option (List ℕ) → RunFault → Type 0
StopsAt step old new before written OutOfMemory = (new ≡ old) × Keeps before written
StopsAt step old new before written Write = (new ≡ step.after) × AppendsFront before written step.answer
StopsAt step old new before written Read = ⊥
StopsAt step old new before written ReaderTooLong = ⊥

-- what a call that carries a step out answers
abbrev pub RunsLine : Step → State → State → Option (List ℕ) → Option (List ℕ) → Result LineOutcome RunFault → Type 0
RunsLine step old new before written (Ok outcome) = Takes step new before written outcome
RunsLine step old new before written (Err fault) = StopsAt step old new before written fault

-- the answer of a step of the store tells what the line comes to: how many pairs changed, or a refusal, which changed nothing; want of
-- memory alone tells nothing of it
abbrev pub IsAnswered : {E : Type 0} → (E → List ℕ) → E → Step → State → State → Result ℕ E → Type 0
IsAnswered name want step old new (Ok pairs) = step ≡ ok_step new pairs
IsAnswered name want step old new (Err refusal) = (new ≡ old) × (refusal ≢ want → step ≡ no_step new (name refusal))

-- unless memory was wanted, the answer of a step of the store has at most 31 bytes
abbrev pub IsShort : Step → Result LineOutcome RunFault → Type 0
IsShort step result = result ≢ Err OutOfMemory → length step.answer ≤ 31
