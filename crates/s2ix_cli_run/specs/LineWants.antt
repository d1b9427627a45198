-- When a line may want memory.
use Rattle.std.specs.Prelude.{◌≡◌, ◌≢◌, ◌⊎◌, ℕ, true, false, Option, Some, None, Result, Ok, Err, List, []}
use Rattle.s2ix_edit_plan.specs.Errors.{MayWantMemory}
use Rattle.s2ix_edit_plan.specs.declared.edit.Edit.{Edit}
use Rattle.s2ix_edit_plan.specs.State.{State}
use Rattle.s2ix_edit_plan.specs.Refusals.{asks_no_copies, edit_refusal, reverts}
use Rattle.s2ix_cli_script.specs.declared.instruction.Instruction.{Instruction}
use Rattle.s2ix_cli_script.specs.declared.instruction.Instruction.TheVariants as asks
use Rattle.s2ix_cli_script.specs.declared.line_fault.LineFault.{LineFault}
use Rattle.s2ix_cli_script.specs.Meaning.{is_on_union, meaning_of}
use Rattle.s2ix_cli_run.specs.Step.{gathers}

-- an edit that is neither refused before its change is made nor of no copies; a `Revert` only if it isn't refused at all
pub record EditWants (s : State) (edit : Edit) : Type 0 where
  pub stage : MayWantMemory (edit_refusal s edit)
  pub copies : asks_no_copies edit ≡ false
  pub reverting : reverts edit ≡ true → edit_refusal s edit ≡ None

-- an instruction: an edit that may, an undo or a redo of a change that there is, and what gathers what it prints
abbrev pub InstructionWants : State → Instruction → Type 0
InstructionWants s (asks.Edit edit) = EditWants s edit
InstructionWants s asks.Undo = s.done ≢ []
InstructionWants s asks.Redo = s.undone ≢ []
InstructionWants s other = gathers other ≡ true

-- a line of this meaning: while the union of its instruction is made, or when the instruction is carried out
abbrev pub MeaningWants : State → Result (Option Instruction) LineFault → Type 0
MeaningWants s (Ok None) = ⊥
MeaningWants s (Ok (Some instruction)) = (is_on_union instruction ≡ true) ⊎ InstructionWants s instruction
MeaningWants s (Err fault) = ⊥

-- a line
abbrev pub LineWants : State → List ℕ → Type 0
LineWants s line = MeaningWants s (meaning_of line)
