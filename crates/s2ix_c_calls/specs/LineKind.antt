-- What a line of a script would do, as a number.
use Rattle.std.specs.Prelude.{◌≡◌, ◌≢◌, ℕ, true, Option, Some, None, Result, Ok, Err, List}
use Rattle.s2ix_cli_script.specs.declared.instruction.Instruction.{Instruction}
use Rattle.s2ix_cli_script.specs.declared.instruction.Instruction.TheVariants as asks
use Rattle.s2ix_cli_script.specs.declared.line_fault.LineFault.{LineFault}
use Rattle.s2ix_cli_script.specs.Meaning.{is_on_union, meaning_of}
use Rattle.s2ix_c_calls.specs.Status.{done, out_of_memory}

-- what an instruction would do: 1 asks, 2 edits, 3 undoes, 4 redoes, 5 forgets
abbrev pub kind_of : Instruction → ℕ
kind_of (asks.Edit edit) = 2
kind_of asks.Undo = 3
kind_of asks.Redo = 4
kind_of asks.Forget = 5
kind_of other = 1

-- what a line of this meaning would do: 0 if it asks for nothing, or is refused whatever is held
abbrev pub line_kind_of : Result (Option Instruction) LineFault → ℕ
line_kind_of (Ok (Some instruction)) = kind_of instruction
line_kind_of (Ok None) = 0
line_kind_of (Err fault) = 0

-- a line of this meaning is on a union of cells, which is made as the line is read
abbrev pub WantsUnion : Result (Option Instruction) LineFault → Type 0
WantsUnion (Ok (Some instruction)) = is_on_union instruction ≡ true
WantsUnion (Ok None) = ⊥
WantsUnion (Err fault) = ⊥

-- it is told what a line would do; or memory is wanted for its union
pub record TellsKind (line : List ℕ) (status kind : ℕ) : Type 0 where
  pub answered : status ≡ done → kind ≡ line_kind_of (meaning_of line)
  pub refused : status ≢ done → (status ≡ out_of_memory) × (kind ≡ 0) × WantsUnion (meaning_of line)
