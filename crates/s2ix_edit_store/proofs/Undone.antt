-- A step, and then an undo.
use Rattle.std.proofs.Common.{◌≡◌, ℕ, ◌-◌, List, [], ◌∷◌, ◌++◌, length, take, Option, Some, None, refl, ap, ap₂, ◌∙◌, arith}
use Rattle.std.specs.List.{slice_get}
use Rattle.std.proofs.lemmas.List.{length-append}
use Rattle.std.proofs.Math.Seq.{take-append_seam}
use Rattle.s2ix_bag_pairs.specs.declared.pair.Entry.{Entry}
use Rattle.s2ix_bag_pairs.specs.Change.{change_between}
use Rattle.s2ix_bag_pairs.specs.Collection.{Collection, IsCollection}
use Rattle.s2ix_bag_pairs.proofs.Inverse.{changed_inverse_between}
use Rattle.s2ix_edit_plan.specs.declared.edit.Edit.{Edit}
use Rattle.s2ix_edit_plan.specs.Edit.{edited}
use Rattle.s2ix_edit_plan.specs.State.{State, change_of, history_of}
use Rattle.s2ix_edit_plan.proofs.Edited.{held_edited_is_collection}
use Rattle.s2ix_edit_store.specs.Store.{IsStore}
use Rattle.s2ix_edit_store.specs.Steps.{after_edit, after_step, after_undo, after_undo_of, faces_of, with_held}
use Rattle.s2ix_edit_store.proofs.AtCursor.{slice_get_last}

-- a store with another number of faces
abbrev pub with_faces : State → ℕ → State
with_faces s n = record { bag = s.bag; done = s.done; undone = s.undone; faces_rebuilt = n }

-- an undo takes back the last change that was done
pub undo_of_last : (s : State) (done : List (List Entry)) (es : List Entry) → s.done ≡ done ++ es ∷ [] → after_undo s ≡ after_undo_of s es
undo_of_last s done es is =
    let last = ap (λ (l : List (List Entry)). slice_get l (length l - 1)) is ∙ slice_get_last done es in
    ap (λ (o : Option (List Entry)). elim o [ Some x ↦ after_undo_of s x | None ↦ s ]) last

pub front_of : (done : List (List Entry)) (es : List Entry) → take (length (done ++ es ∷ []) - 1) (done ++ es ∷ []) ≡ done
front_of done es =
    let place : length (done ++ es ∷ []) - 1 ≡ length done = omega (arith, length-append done (es ∷ [])) in
    ap (λ k. take k (done ++ es ∷ [])) place ∙ take-append_seam done (es ∷ [])

-- a store whose last change has been taken back
abbrev pub gone_back : State → List Entry → State
gone_back s es = record { bag = s.bag; done = s.done; undone = es ∷ []; faces_rebuilt = faces_of es }

-- a step to a collection and then an undo lead back
pub undo_of_step : (s : State) (new : Collection) → IsStore s → IsCollection new
    → after_undo (after_step s new (change_between s.bag.held new)) ≡ gone_back s (change_between s.bag.held new)
undo_of_step s new st is =
    let es = change_between s.bag.held new in
    undo_of_last (after_step s new es) s.done es refl
    ∙ ap₂ (λ (hs : Collection) (done : List (List Entry)).
    let t : State = record { bag = with_held s.bag hs; done = done; undone = es ∷ []; faces_rebuilt = faces_of es } in
    t)
    (changed_inverse_between s.bag.held new st.bag.rises is)
    (front_of s.done es)

pub undo_of_edit : (s : State) (edit : Edit) → IsStore s → after_undo (after_edit s edit) ≡ gone_back s (change_of s edit)
undo_of_edit s edit st = undo_of_step s (edited (history_of s) edit) st (held_edited_is_collection s edit st.bag.rises)
