-- A line carried out, with its answer in a buffer of the caller.
use Rattle.std.specs.Prelude.{◌≡◌, ◌<◌, ◌≤◌, ◌⊎◌, ℕ, if◌then◌else◌, not, Bool, true, false, Option, Some, None, Result, Ok, Err}
use Rattle.std.specs.Prelude.{List, length, take, drop}
use Rattle.s2ix_edit_plan.specs.State.{State}
use Rattle.s2ix_cli_script.specs.declared.instruction.Instruction.{Instruction}
use Rattle.s2ix_cli_script.specs.declared.line_fault.LineFault.{LineFault}
use Rattle.s2ix_cli_script.specs.Meaning.{is_on_union, meaning_of}
use Rattle.s2ix_cli_run.specs.Asking.{is_question}
use Rattle.s2ix_cli_run.specs.Step.{Step, step_at}
use Rattle.s2ix_cli_run.specs.LineWants.{InstructionWants}
use Rattle.s2ix_c_calls.specs.declared.no_answer.NoAnswer.{NoAnswer}
use Rattle.s2ix_c_calls.specs.declared.no_answer.NoAnswer.TheVariants.{OutOfMemory, NoRoom}

-- a text at the front of a buffer, whose bytes past the text stay as they were
pub record IsAtFront (text : List ℕ) (count : ℕ) (old new : List ℕ) : Type 0 where
  pub long : count ≡ length text
  pub front : take count new ≡ text
  pub after : drop count new ≡ drop count old

-- a text was put to the front of a buffer, or the buffer is as it was
abbrev pub Puts : List ℕ → List ℕ → List ℕ → Result ℕ NoAnswer → Type 0
Puts text before written (Ok count) = IsAtFront text count before written
Puts text before written (Err why) = written ≡ before

-- a step was taken, and its answer is at the front of a buffer; or there is no answer, and neither store nor buffer has changed
abbrev pub Answers : Step → State → State → List ℕ → List ℕ → Result ℕ NoAnswer → Type 0
Answers step old new before written (Ok count) = (new ≡ step.after) × IsAtFront step.answer count before written
Answers step old new before written (Err why) = (new ≡ old) × (written ≡ before)

-- whether a line of this meaning asks for an edit, an undo, a redo or a forget
abbrev pub asks_step : Result (Option Instruction) LineFault → Bool
asks_step (Ok (Some instruction)) = not (is_question instruction)
asks_step (Ok None) = false
asks_step (Err fault) = false

-- how much room a line of this meaning wants: 32 bytes for the answer of a step, else as many as its answer has
abbrev pub room_at : State → Result (Option Instruction) LineFault → ℕ
room_at s meaning = if asks_step meaning then 32 else length (step_at s meaning).answer

-- how much room a line wants
abbrev pub room_for : State → List ℕ → ℕ
room_for s line = room_at s (meaning_of line)

-- what is told of a buffer of this length, if so much room is wanted: an answer keeps within the room, and the buffer has it; `NoRoom`
-- tells the room, and the buffer is shorter
abbrev pub IsWithin : ℕ → ℕ → Result ℕ NoAnswer → Type 0
IsWithin room len (Ok count) = (count ≤ room) × (room ≤ len)
IsWithin room len (Err (NoRoom needed)) = (needed ≡ room) × (len < room)
IsWithin room len (Err OutOfMemory) = Unit {0}

-- a line of this meaning may want memory, if the buffer has this length: while the union of its instruction is made, to keep the answer of
-- a question, or to be carried out if it asks for a step; but no step is taken without room for its answer
abbrev pub AnswerWants : State → ℕ → Result (Option Instruction) LineFault → Type 0
AnswerWants s len (Ok None) = ⊥
AnswerWants s len (Ok (Some instruction)) =
    (is_on_union instruction ≡ true) ⊎ (is_question instruction ≡ true) ⊎ ((32 ≤ len) × InstructionWants s instruction)
AnswerWants s len (Err fault) = ⊥
