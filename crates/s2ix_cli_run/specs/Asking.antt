-- What lines ask for.
use Rattle.std.specs.Prelude.{◌≡◌, ℕ, Bool, true, false, Some, Ok, List}
use Rattle.s2ix_edit_plan.specs.declared.edit.Edit.{Edit}
use Rattle.s2ix_edit_plan.specs.State.{State}
use Rattle.s2ix_cli_script.specs.declared.instruction.Instruction.{Instruction}
use Rattle.s2ix_cli_script.specs.declared.instruction.Instruction.TheVariants as asks
use Rattle.s2ix_cli_script.specs.Meaning.{meaning_of}
use Rattle.s2ix_cli_run.specs.Step.{step_of}

-- a line asks for an instruction
abbrev pub AsksFor : List ℕ → Instruction → Type 0
AsksFor line instruction = meaning_of line ≡ Ok (Some instruction)

-- whether an instruction is a query: it changes nothing
abbrev pub is_question : Instruction → Bool
is_question (asks.Edit edit) = false
is_question asks.Undo = false
is_question asks.Redo = false
is_question asks.Forget = false
is_question other = true

-- a line asks for an edit that is accepted, and the next one for an undo
pub record EditsAndUndoes (s : State) (line undo : List ℕ) : Type 0 where
  pub edit : Edit
  pub edits : AsksFor line (asks.Edit edit)
  pub accepted : (step_of s line).is_refused ≡ false
  pub undoes : AsksFor undo asks.Undo
