-- A line leads to a store, and keeps the first collection of the history unless it forgets what was done.
use Rattle.std.proofs.Common.{◌≡◌, ◌≢◌, ℕ, ◌-◌, ◌==◌, Bool, true, false, if◌then◌else◌, Option, Some, None, Result, Ok, Err, List, [], length, refl, sym, ap, ◌∙◌}
use Rattle.std.specs.List.{slice_get}
use Rattle.s2ix_bag_pairs.specs.declared.pair.Entry.{Entry}
use Rattle.s2id_core.specs.CellId.{level_of}
use Rattle.s2ix_edit_plan.specs.declared.errors.EditError.{EditError}
use Rattle.s2ix_edit_plan.specs.declared.edit.Edit.{Edit}
use Rattle.s2ix_edit_plan.specs.Refusals.{edit_refusal}
use Rattle.s2ix_edit_plan.specs.State.{State}
use Rattle.s2ix_edit_store.specs.Standing.{first_collection}
use Rattle.s2ix_edit_store.specs.Steps.{last_done, last_undone}
use Rattle.s2ix_edit_store.specs.Store.{IsStore}
use Rattle.s2ix_edit_store.proofs.Kept.{edit_keeps, redo_keeps, undo_keeps}
use Rattle.s2ix_edit_store.proofs.Standing.{first_after_edit, first_after_redo, first_after_undo}
use Rattle.s2ix_cli_script.specs.declared.line_fault.LineFault.{LineFault}
use Rattle.s2ix_cli_script.specs.declared.instruction.Instruction.{Instruction}
use Rattle.s2ix_cli_script.specs.declared.instruction.Instruction.TheVariants as asks
use Rattle.s2ix_cli_script.specs.Meaning.{meaning_of}
use Rattle.s2ix_cli_run.specs.Asking.{AsksFor}
use Rattle.s2ix_cli_run.specs.Step.{edit_step, edit_step_at, instruction_step, no_step, redo_step, redo_step_at, step_at, step_of, text_step, undo_step, undo_step_at}

-- the second state is a store's, whose history starts where that of the first does
pub record StaysIn (s t : State) : Type 0 where
  pub store : IsStore t
  pub first : first_collection t ≡ first_collection s

pub stays_put : (s : State) → IsStore s → StaysIn s s
stays_put s st = record { store = st; first = refl }

-- ---- the steps

edit_at : (s : State) (edit : Edit) (refusal : Option EditError) → IsStore s → edit_refusal s edit ≡ refusal
    → StaysIn s (edit_step_at s edit refusal).after
edit_at s edit None st is = record { store = edit_keeps s edit st is; first = first_after_edit s edit st }
edit_at s edit (Some error) st is = stays_put s st

edit_stays : (s : State) (edit : Edit) → IsStore s → StaysIn s (edit_step s edit).after
unfolding edit_step
edit_stays s edit st = edit_at s edit (edit_refusal s edit) st refl

-- a list with a last change isn't empty
some_last : (changes : List (List Entry)) (es : List Entry) → slice_get changes (length changes - 1) ≡ Some es → changes ≢ []
some_last changes es is none =
    let clash : None ≡ Some es = sym (ap (λ (l : List (List Entry)). slice_get l (length l - 1)) none) ∙ is in cc

undo_at : (s : State) (last : Option (List Entry)) → IsStore s → last_done s ≡ last → StaysIn s (undo_step_at s last).after
undo_at s None st is = stays_put s st
undo_at s (Some es) st is = let some = some_last s.done es is in record { store = undo_keeps s st some; first = first_after_undo s st some }

undo_stays : (s : State) → IsStore s → StaysIn s (undo_step s).after
unfolding undo_step
undo_stays s st = undo_at s (last_done s) st refl

redo_at : (s : State) (last : Option (List Entry)) → IsStore s → last_undone s ≡ last → StaysIn s (redo_step_at s last).after
redo_at s None st is = stays_put s st
redo_at s (Some es) st is =
    let some = some_last s.undone es is in record { store = redo_keeps s st some; first = first_after_redo s st some }

redo_stays : (s : State) → IsStore s → StaysIn s (redo_step s).after
unfolding redo_step
redo_stays s st = redo_at s (last_undone s) st refl

-- ---- a line

-- a leaf, or a cell that is none
at_stays : (is_leaf : Bool) (s : State) (text name : List ℕ) → IsStore s
    → StaysIn s (if is_leaf then text_step s text else no_step s name).after
at_stays true s text name st = stays_put s st
at_stays false s text name st = stays_put s st

instruction_stays : (s : State) (instruction : Instruction) → IsStore s → (instruction ≡ asks.Forget → ⊥)
    → StaysIn s (instruction_step s instruction).after
instruction_stays s (asks.Edit edit) st keeps = edit_stays s edit st
instruction_stays s asks.Undo st keeps = undo_stays s st
instruction_stays s asks.Redo st keeps = redo_stays s st
instruction_stays s asks.Forget st keeps = absurd (keeps refl)
instruction_stays s (asks.At cell) st keeps = at_stays (level_of cell == 30) s _ _ st
instruction_stays s other st keeps = stays_put s st

meaning_stays : (s : State) (meaning : Result (Option Instruction) LineFault) → IsStore s → (meaning ≡ Ok (Some asks.Forget) → ⊥)
    → StaysIn s (step_at s meaning).after
meaning_stays s (Ok None) st keeps = stays_put s st
meaning_stays s (Ok (Some instruction)) st keeps =
    instruction_stays s instruction st (λ is. keeps (ap (λ (i : Instruction). Ok (Some i)) is))
meaning_stays s (Err fault) st keeps = stays_put s st

pub line_stays : (s : State) (line : List ℕ) → IsStore s → ¬ AsksFor line asks.Forget → StaysIn s (step_of s line).after
unfolding step_of
line_stays s line st keeps = meaning_stays s (meaning_of line) st keeps
