-- What the store answers to an edit, an undo or a redo tells the line's step.
use Rattle.std.proofs.Common.{◌≡◌, ◌≢◌, ◌↔◌, ◌-◌, ℕ, List, [], ◌∷◌, Option, None, Some, Result, Ok, Err, refl, sym, ap, ◌∙◌, length, arith}
use Rattle.std.specs.Prelude.{IfOk, IfErr, OnOk, OnErr, slice_get}
use Rattle.std.proofs.lemmas.Option.{slice_get-get_or}
use Rattle.s2ix_bag_pairs.specs.declared.pair.Entry.{Entry}
use Rattle.s2ix_edit_plan.specs.declared.errors.EditError.{EditError}
use Rattle.s2ix_edit_plan.specs.declared.errors.EditError.TheVariants.{JournalFull, NoSuchLabel, NotHeld, TooFine, NoSuchChange, BelowZero, NoChange, TooManyCopies, TooManyPairs, OutOfMemory}
use Rattle.s2ix_edit_plan.specs.declared.errors.RedoError.{RedoError}
use Rattle.s2ix_edit_plan.specs.declared.errors.RedoError.TheVariants as redo
use Rattle.s2ix_edit_plan.specs.declared.errors.UndoError.{UndoError}
use Rattle.s2ix_edit_plan.specs.declared.errors.UndoError.TheVariants as undo
use Rattle.s2ix_edit_plan.specs.Errors.{IsEditRefusal}
use Rattle.s2ix_edit_plan.specs.declared.edit.Edit.{Edit}
use Rattle.s2ix_edit_plan.specs.Refusals.{edit_refusal}
use Rattle.s2ix_edit_plan.specs.State.{State, change_of}
use Rattle.s2ix_edit_store.specs.Steps.{after_edit, after_undo, after_redo, undo_size, redo_size}
use Rattle.s2ix_cli_script.specs.RefusalNames.{edit_error_name, redo_error_name, undo_error_name}
use Rattle.s2ix_cli_run.specs.Line.{IsAnswered}
use Rattle.s2ix_cli_run.specs.Step.{edit_step, edit_step_at, no_step, ok_step, redo_step, redo_step_at, undo_step, undo_step_at, Step}

-- ---- an edit

-- an edit that nothing refuses
accepted_edit : (s new : State) (edit : Edit) (n : ℕ) → edit_refusal s edit ≡ None → new ≡ after_edit s edit → n ≡ length (change_of s edit)
    → edit_step s edit ≡ ok_step new n
unfolding edit_step
accepted_edit s new edit n e stands is =
    ap (edit_step_at s edit) e ∙ ap (ok_step (after_edit s edit)) (sym is) ∙ ap (λ x. ok_step x n) (sym stands)

-- an edit that is refused for another cause than memory
refused_edit : (s : State) (edit : Edit) (error : EditError) → IsEditRefusal error (edit_refusal s edit) → error ≢ OutOfMemory
    → edit_step s edit ≡ no_step s (edit_error_name error)
unfolding edit_step
refused_edit s edit JournalFull e other = ap (edit_step_at s edit) e
refused_edit s edit NoSuchLabel e other = ap (edit_step_at s edit) e
refused_edit s edit NotHeld e other = ap (edit_step_at s edit) e
refused_edit s edit TooFine e other = ap (edit_step_at s edit) e
refused_edit s edit NoSuchChange e other = ap (edit_step_at s edit) e
refused_edit s edit BelowZero e other = ap (edit_step_at s edit) e
refused_edit s edit NoChange e other = ap (edit_step_at s edit) e
refused_edit s edit TooManyCopies e other = ap (edit_step_at s edit) e
refused_edit s edit TooManyPairs e other = ap (edit_step_at s edit) e
refused_edit s edit OutOfMemory e other = absurd (other refl)

pub edit_is_answered : (s new : State) (edit : Edit) (answered : Result ℕ EditError) → OnOk answered (edit_refusal s edit ≡ None)
    → OnOk answered (new ≡ after_edit s edit)
    → IfOk answered (λ n. n ≡ length (change_of s edit)) → IfErr answered (λ error. IsEditRefusal error (edit_refusal s edit))
    → OnErr answered (new ≡ s)
    → IsAnswered edit_error_name OutOfMemory (edit_step s edit) s new answered
edit_is_answered s new edit (Ok n) accepted stands is refused unchanged = accepted_edit s new edit n accepted stands is
edit_is_answered s new edit (Err error) accepted stands is refused unchanged =
    (unchanged, λ other. refused_edit s edit error refused other ∙ ap (λ x. no_step x (edit_error_name error)) (sym unchanged))

-- ---- an undo and a redo

-- the last of a list that is not empty
slice_get-last : {A : Type 0} (xs : List A) → xs ≢ [] → (x : A) × (slice_get xs (length xs - 1) ≡ Some x)
slice_get-last [] some = absurd (some refl)
slice_get-last (x ∷ xs) some = (_, slice_get-get_or (x ∷ xs) (length (x ∷ xs) - 1) x (omega arith))

-- a step that takes the last change of a list, as an undo and a redo do: there are two errors, that the list is empty and want of memory
last_is_answered : {E : Type 0} (name : E → List ℕ) (nothing want : E) (step_at : Option (List Entry) → Step) (changes : List (List Entry))
    (s new after : State) (size : ℕ) (answered : Result ℕ E)
    → ((error : E) → error ≢ want → error ≡ nothing) → ((es : List Entry) → step_at (Some es) ≡ ok_step after size)
    → step_at None ≡ no_step s (name nothing)
    → (answered ≡ Err nothing) ↔ (changes ≡ []) → OnOk answered (new ≡ after) → IfOk answered (λ n. n ≡ size) → OnErr answered (new ≡ s)
    → IsAnswered name want (step_at (slice_get changes (length changes - 1))) s new answered
last_is_answered name nothing want step_at changes s new after size (Ok n) two takes lacks empty stands is unchanged =
    let last = slice_get-last changes (λ none. let e = empty.1 none in cc) in
    ap step_at last.1 ∙ takes last.0 ∙ ap (λ x. ok_step x size) (sym stands) ∙ ap (ok_step new) (sym is)
last_is_answered name nothing want step_at changes s new after size (Err error) two takes lacks empty stands is unchanged = (
  unchanged,
  λ other.
      let same = two error other in
      ap (λ xs. step_at (slice_get xs (length xs - 1))) (empty.0 (ap Err same)) ∙ lacks ∙ ap (λ e. no_step s (name e)) (sym same)
      ∙ ap (λ x. no_step x (name error)) (sym unchanged),
)

pub undo_is_answered : (s new : State) (answered : Result ℕ UndoError) → (answered ≡ Err undo.NothingToUndo) ↔ (s.done ≡ [])
    → OnOk answered (new ≡ after_undo s)
    → IfOk answered (λ n. n ≡ undo_size s) → OnErr answered (new ≡ s)
    → IsAnswered undo_error_name undo.OutOfMemory (undo_step s) s new answered
unfolding undo_step
undo_is_answered s new answered nothing stands is unchanged =
    last_is_answered undo_error_name undo.NothingToUndo undo.OutOfMemory (undo_step_at s) s.done s new (after_undo s) (undo_size s) answered two
    (λ es. refl) refl nothing stands is unchanged
  where
    two : (error : UndoError) → error ≢ undo.OutOfMemory → error ≡ undo.NothingToUndo
    two undo.NothingToUndo other = refl
    two undo.OutOfMemory other = absurd (other refl)

pub redo_is_answered : (s new : State) (answered : Result ℕ RedoError) → (answered ≡ Err redo.NothingToRedo) ↔ (s.undone ≡ [])
    → OnOk answered (new ≡ after_redo s)
    → IfOk answered (λ n. n ≡ redo_size s) → OnErr answered (new ≡ s)
    → IsAnswered redo_error_name redo.OutOfMemory (redo_step s) s new answered
unfolding redo_step
redo_is_answered s new answered nothing stands is unchanged =
    last_is_answered redo_error_name redo.NothingToRedo redo.OutOfMemory (redo_step_at s) s.undone s new (after_redo s) (redo_size s) answered two
    (λ es. refl) refl nothing stands is unchanged
  where
    two : (error : RedoError) → error ≢ redo.OutOfMemory → error ≡ redo.NothingToRedo
    two redo.NothingToRedo other = refl
    two redo.OutOfMemory other = absurd (other refl)
