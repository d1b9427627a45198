-- What each step of a store makes of its history.
use Rattle.std.proofs.Common.{◌≡◌, ◌≢◌, ◌-◌, [], get_or, length, reverse, take, refl, sym, ap, ◌∙◌}
use Rattle.std.proofs.Math.Seq.{take-append_seam}
use Rattle.s2ix_bag_pairs.proofs.Inverse.{changed_inverse_between}
use Rattle.s2ix_bag_lists.proofs.Refusals.{made_is_bag, taken_from_none}
use Rattle.s2ix_edit_plan.specs.declared.edit.Edit.{Edit}
use Rattle.s2ix_edit_plan.specs.Edit.{edited}
use Rattle.s2ix_edit_plan.specs.State.{State, change_of, history_of}
use Rattle.s2ix_edit_plan.specs.History.{changes_along, cursor_alone, one_back, one_on, with_next}
use Rattle.s2ix_edit_plan.proofs.Edited.{held_edited_is_collection}
use Rattle.s2ix_edit_store.specs.Store.{IsStore}
use Rattle.s2ix_edit_store.specs.Steps.{after_edit, after_forget, after_redo, after_redo_of, after_undo, after_undo_of}
use Rattle.s2ix_edit_store.proofs.Along.{changes_of_history}
use Rattle.s2ix_edit_store.proofs.AtCursor.{goes_on, history_alone, history_redone, history_step, history_undone}
use Rattle.s2ix_edit_store.proofs.Redone.{ends_in_last, redo_of_last}
use Rattle.s2ix_edit_store.proofs.Undone.{undo_of_last}

-- an edit goes on to the edited collection
pub history_edited : (s : State) (edit : Edit) → IsStore s
    → history_of (after_edit s edit) ≡ with_next (history_of s) (edited (history_of s) edit)
history_edited s edit st =
    let new = edited (history_of s) edit in
    history_step s new (change_of s edit)
    (changed_inverse_between s.bag.held new st.bag.rises (held_edited_is_collection s edit st.bag.rises))

-- an undo goes back by one
pub history_after_undo : (s : State) → IsStore s → s.done ≢ [] → history_of (after_undo s) ≡ one_back (history_of s)
history_after_undo s st some =
    let front = take (length s.done - 1) s.done in
    let es = get_or s.done (length s.done - 1) [] in
    let is = ends_in_last s.done some in
    ap history_of (undo_of_last s front es is)
    ∙ history_undone s (after_undo_of s es) es st (record { bag = refl; done = is; undone = refl })

-- a redo goes on by one
pub history_after_redo : (s : State) → IsStore s → s.undone ≢ [] → history_of (after_redo s) ≡ one_on (history_of s)
history_after_redo s st some =
    let front = take (length s.undone - 1) s.undone in
    let es = get_or s.undone (length s.undone - 1) [] in
    let is = ends_in_last s.undone some in
    let on = goes_on s front es st is in
    ap history_of (redo_of_last s front es is)
    ∙ history_redone s (after_redo_of s es) es st (record { bag = refl; done = refl; undone = is })
    (made_is_bag s.bag es st.bag on.0 (taken_from_none s.bag es on.2))

-- a history that is forgotten is the collection alone
pub history_after_forget : (s : State) → history_of (after_forget s) ≡ cursor_alone (history_of s)
history_after_forget s = history_alone s

-- what was done is the changes up to the cursor
pub done_to_cursor : (s : State) → IsStore s → s.done ≡ take (history_of s).cursor (changes_along (history_of s).collections)
done_to_cursor s st =
    sym (ap (λ ess. take (length s.done) ess) (changes_of_history s st) ∙ take-append_seam s.done (reverse s.undone))
