-- The names by which steps are refused are short, and so are the answers of steps.
use Rattle.std.proofs.Common.{◌≡◌, ℕ, ◌^◌, ◌<◌, ◌≤◌, List, length, subst, sym, arith}
use Rattle.std.proofs.lemmas.Fmt.{length-decimal-le}
use Rattle.std.proofs.lemmas.List.{length-append}
use Rattle.std.specs.Prelude.{codes, decimal}
use Rattle.s2ix_edit_plan.specs.State.{State}
use Rattle.s2ix_cli_run.specs.Step.{Step, no_step, ok_step}
use Rattle.s2ix_edit_plan.specs.declared.errors.EditError.{EditError}
use Rattle.s2ix_edit_plan.specs.declared.errors.EditError.TheVariants as edit
use Rattle.s2ix_edit_plan.specs.declared.errors.RedoError.{RedoError}
use Rattle.s2ix_edit_plan.specs.declared.errors.RedoError.TheVariants as redo
use Rattle.s2ix_edit_plan.specs.declared.errors.UndoError.{UndoError}
use Rattle.s2ix_edit_plan.specs.declared.errors.UndoError.TheVariants as undo
use Rattle.s2ix_cli_script.specs.RefusalNames.{edit_error_name, redo_error_name, undo_error_name}

pub edit_name_short : (error : EditError) → length (edit_error_name error) ≤ 27
edit_name_short edit.JournalFull = omega arith
edit_name_short edit.NoSuchLabel = omega arith
edit_name_short edit.NotHeld = omega arith
edit_name_short edit.TooFine = omega arith
edit_name_short edit.NoSuchChange = omega arith
edit_name_short edit.BelowZero = omega arith
edit_name_short edit.NoChange = omega arith
edit_name_short edit.TooManyCopies = omega arith
edit_name_short edit.TooManyPairs = omega arith
edit_name_short edit.OutOfMemory = omega arith

pub undo_name_short : (error : UndoError) → length (undo_error_name error) ≤ 27
undo_name_short undo.NothingToUndo = omega arith
undo_name_short undo.OutOfMemory = omega arith

pub redo_name_short : (error : RedoError) → length (redo_error_name error) ≤ 27
redo_name_short redo.NothingToRedo = omega arith
redo_name_short redo.OutOfMemory = omega arith

pub ok_is_short : (step : Step) (new : State) (n : ℕ) → n < 2 ^ 64 → step ≡ ok_step new n → length step.answer ≤ 31
ok_is_short step new n small is =
    subst (λ (s : Step). length s.answer ≤ 31) (sym is)
    (omega (arith, length-decimal-le 20 n (omega arith) (omega (arith, small)) small, length-append (decimal n) (codes "\n")))

pub no_is_short : (step : Step) (new : State) (name : List ℕ) → length name ≤ 27 → step ≡ no_step new name → length step.answer ≤ 31
no_is_short step new name short is =
    subst (λ (s : Step). length s.answer ≤ 31) (sym is) (omega (arith, short, length-append name (codes "\n")))
