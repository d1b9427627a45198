-- What the definitions say of one another: each of these is proved, and told in a sentence, by the function of `laws` of its name, or by a
-- clause of one.
use Rattle.std.specs.Prelude.{◌≡◌, ℕ, true, List, [], ◌∷◌}
use Rattle.s2ix_edit_plan.specs.State.{State}
use Rattle.s2ix_edit_store.specs.Store.{IsStore}
use Rattle.s2ix_cli_script.specs.declared.instruction.Instruction.{Instruction}
use Rattle.s2ix_cli_script.specs.declared.instruction.Instruction.TheVariants as asks
use Rattle.s2ix_cli_run.specs.Asking.{AsksFor, EditsAndUndoes, is_question}
use Rattle.s2ix_cli_run.specs.Script.{after, output_of}

abbrev pub UndoRestoresTheDump : Type 0
UndoRestoresTheDump =
    (s : State) (line undo dump : List ℕ) → IsStore s → EditsAndUndoes s line undo → AsksFor dump asks.Dump
    → output_of (after s (line ∷ undo ∷ [])) (dump ∷ []) ≡ output_of s (dump ∷ [])

abbrev pub UndoRestoresWhatIsPrinted : Type 0
UndoRestoresWhatIsPrinted =
    (s : State) (line undo question : List ℕ) (instruction : Instruction) → IsStore s → EditsAndUndoes s line undo
    → AsksFor question instruction → is_question instruction ≡ true
    → output_of (after s (line ∷ undo ∷ [])) (question ∷ []) ≡ output_of s (question ∷ [])
