-- An undo and then a redo, and the other way about.
use Rattle.std.proofs.Common.{◌≡◌, ◌≢◌, ◌+◌, ◌-◌, List, [], ◌∷◌, ◌++◌, length, take, get_or, Option, Some, None, refl, sym, ap, ap₂, ◌∙◌, arith}
use Rattle.std.specs.List.{slice_get}
use Rattle.std.proofs.lemmas.List.{take_more}
use Rattle.std.proofs.Math.Seq.{take-length}
use Rattle.s2ix_bag_pairs.specs.declared.pair.Entry.{Entry}
use Rattle.s2ix_bag_pairs.specs.Change.{inverse_of}
use Rattle.s2ix_edit_plan.specs.State.{State}
use Rattle.s2ix_edit_store.specs.Store.{IsStore}
use Rattle.s2ix_edit_store.specs.Steps.{after_redo, after_redo_of, after_undo, after_undo_of, faces_of, with_held, last_done, last_undone}
use Rattle.s2ix_edit_store.proofs.AtCursor.{forth_again, goes_back, goes_on, slice_get_last}
use Rattle.s2ix_edit_store.proofs.Taken.{changed_back, not_mismatched}
use Rattle.s2ix_edit_store.proofs.Undone.{front_of, undo_of_last, with_faces}

-- a list that is not empty ends in its last element
pub ends_in_last : (ess : List (List Entry)) → ess ≢ [] → ess ≡ take (length ess - 1) ess ++ get_or ess (length ess - 1) [] ∷ []
ends_in_last [] some = absurd (some refl)
ends_in_last (es ∷ rest) some =
    let ess = es ∷ rest in
    let whole : length ess ≡ length ess - 1 + 1 = omega arith in
    sym (take-length ess) ∙ ap (λ n. take n ess) whole ∙ take_more ess (length ess - 1) [] (omega arith)

-- a redo does again the last change that was undone
pub redo_of_last : (s : State) (undone : List (List Entry)) (es : List Entry) → s.undone ≡ undone ++ es ∷ []
    → after_redo s ≡ after_redo_of s es
redo_of_last s undone es is =
    let last = ap (λ (l : List (List Entry)). slice_get l (length l - 1)) is ∙ slice_get_last undone es in
    ap (λ (o : Option (List Entry)). elim o [ Some x ↦ after_redo_of s x | None ↦ s ]) last

pub redo_of_undo : (s : State) → IsStore s → s.done ≢ []
    → after_redo (after_undo s) ≡ with_faces s (faces_of (get_or s.done (length s.done - 1) []))
redo_of_undo s st some =
    let front = take (length s.done - 1) s.done in
    let es = get_or s.done (length s.done - 1) [] in
    let is = ends_in_last s.done some in
    let back = goes_back s front es st is in
    let forth = forth_again s.bag es st.bag.rises back.0 (not_mismatched s.bag (inverse_of es) back.2) in
    ap after_redo (undo_of_last s front es is)
    ∙ redo_of_last (after_undo_of s es) s.undone es refl
    ∙ ap (λ hs.
    let t : State =
    record {
      bag = with_held s.bag hs;
      done = front ++ es ∷ [];
      undone = take (length (s.undone ++ es ∷ []) - 1) (s.undone ++ es ∷ []);
      faces_rebuilt = faces_of es;
    } in
    t)
    forth
    ∙ ap₂ (λ (done undone : List (List Entry)).
    let t : State = record { bag = s.bag; done = done; undone = undone; faces_rebuilt = faces_of es } in t)
    (sym is) (front_of s.undone es)

pub undo_of_redo : (s : State) → IsStore s → s.undone ≢ []
    → after_undo (after_redo s) ≡ with_faces s (faces_of (get_or s.undone (length s.undone - 1) []))
undo_of_redo s st some =
    let front = take (length s.undone - 1) s.undone in
    let es = get_or s.undone (length s.undone - 1) [] in
    let is = ends_in_last s.undone some in
    let on = goes_on s front es st is in
    let back = changed_back s.bag es st.bag.rises on.0 (not_mismatched s.bag es on.2) in
    ap after_undo (redo_of_last s front es is)
    ∙ undo_of_last (after_redo_of s es) s.done es refl
    ∙ ap (λ hs.
    let t : State =
    record {
      bag = with_held s.bag hs;
      done = take (length (s.done ++ es ∷ []) - 1) (s.done ++ es ∷ []);
      undone = front ++ es ∷ [];
      faces_rebuilt = faces_of es;
    } in
    t)
    back
    ∙ ap₂ (λ (done undone : List (List Entry)).
    let t : State = record { bag = s.bag; done = done; undone = undone; faces_rebuilt = faces_of es } in t)
    (front_of s.done es) (sym is)

-- ---- the limits

-- a step that goes by a change, if there is one, keeps the limits if each such step does
step_keeps_limits : (s : State) (step : List Entry → State) (o : Option (List Entry))
    → ((es : List Entry) → (step es).bag.limits ≡ s.bag.limits) → let next : State =
    elim o [ Some es ↦ step es | None ↦ s ] in
    next.bag.limits ≡ s.bag.limits
step_keeps_limits s step (Some es) kept = kept es
step_keeps_limits s step None kept = refl

pub undo_keeps_limits : (s : State) → (after_undo s).bag.limits ≡ s.bag.limits
undo_keeps_limits s = step_keeps_limits s (after_undo_of s) (last_done s) (λ es. refl)

pub redo_keeps_limits : (s : State) → (after_redo s).bag.limits ≡ s.bag.limits
redo_keeps_limits s = step_keeps_limits s (after_redo_of s) (last_undone s) (λ es. refl)
