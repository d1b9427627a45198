-- A line's answer is that of what it asks for.
use Rattle.std.proofs.Common.{◌≡◌, ◌≤◌, ℕ, true, inl, Option, Some, None, Result, Ok, Err, List, length, sym, subst, arith}
use Rattle.s2ix_edit_plan.specs.State.{State}
use Rattle.s2ix_cli_answers.specs.Answers.{no_line}
use Rattle.s2ix_cli_script.specs.declared.instruction.Instruction.{Instruction}
use Rattle.s2ix_cli_script.specs.declared.line_fault.LineFault.{LineFault}
use Rattle.s2ix_cli_script.specs.declared.line_fault.LineFault.TheVariants as fault
use Rattle.s2ix_cli_script.specs.FaultNames.{fault_name}
use Rattle.s2ix_cli_script.specs.Named.{is_ok_with}
use Rattle.s2ix_cli_script.specs.Meaning.{asks_on_union, meaning_of}
use Rattle.s2ix_cli_run.specs.Step.{step_at, step_of}
use Rattle.s2ix_c_calls.specs.declared.no_answer.NoAnswer.{NoAnswer}
use Rattle.s2ix_c_calls.specs.InBuffer.{AnswerWants, Answers}

pub answers_by : (s : State) (line : List ℕ) (meaning : Result (Option Instruction) LineFault) → meaning_of line ≡ meaning → (new : State)
    (before after : List ℕ) (result : Result ℕ NoAnswer) → Answers (step_at s meaning) s new before after result
    → Answers (step_of s line) s new before after result
unfolding step_of
answers_by s line meaning is new before after result answered =
    subst (λ (m : Result (Option Instruction) LineFault). Answers (step_at s m) s new before after result) (sym is) answered

-- if reading a line wanted memory, it may want it
pub lacks_memory : (s : State) (len : ℕ) (meaning : Result (Option Instruction) LineFault) → is_ok_with asks_on_union meaning ≡ true
    → AnswerWants s len meaning
lacks_memory s len (Ok None) wants = cc
lacks_memory s len (Ok (Some instruction)) wants = inl wants
lacks_memory s len (Err fault) wants = cc

-- the answer of a refused line is shorter than the room of a step
pub refusal_is_short : (refused : LineFault) → length (no_line (fault_name refused)) ≤ 31
refusal_is_short fault.LineTooLong = omega arith
refusal_is_short fault.BadCommand = omega arith
refusal_is_short fault.BadArguments = omega arith
refusal_is_short fault.BadToken = omega arith
refusal_is_short fault.BadLabel = omega arith
refusal_is_short fault.BadCount = omega arith
refusal_is_short fault.BadLevel = omega arith
refusal_is_short fault.BadNumber = omega arith
