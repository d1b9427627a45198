-- What a step restores: the bag and the changes that stood before the step which it takes back.
use Rattle.std.proofs.Common.{◌≡◌, ◌≢◌, ℕ, ◌-◌, List, [], ◌∷◌, ◌++◌, length, take, get_or, refl, sym, ap, ap₂, ◌∙◌, subst}
use Rattle.s2ix_bag_pairs.specs.declared.pair.Entry.{Entry}
use Rattle.s2ix_bag_pairs.specs.declared.pair.Pair.{Pair}
use Rattle.s2ix_bag_pairs.specs.Change.{counts_at, difference_of}
use Rattle.s2ix_bag_pairs.specs.Collection.{LimitedCollection, count_in}
use Rattle.s2ix_bag_pairs.specs.Pair.{rank_of}
use Rattle.s2ix_bag_pairs.proofs.Differences.{counts_between}
use Rattle.s2ix_edit_plan.specs.declared.edit.Edit.{Edit}
use Rattle.s2ix_edit_plan.specs.Edit.{edited}
use Rattle.s2ix_edit_plan.specs.State.{State, change_of, history_of}
use Rattle.s2ix_edit_plan.proofs.Edited.{held_edited_is_collection}
use Rattle.s2ix_edit_store.specs.Store.{IsStore}
use Rattle.s2ix_edit_store.specs.Steps.{after_edit, after_redo, after_redo_of, after_undo, after_undo_of, faces_of}
use Rattle.s2ix_edit_store.proofs.AtCursor.{Redoes, Undoes}
use Rattle.s2ix_edit_store.proofs.Redone.{redo_of_last, redo_of_undo}
use Rattle.s2ix_edit_store.proofs.Undone.{front_of, undo_of_edit, undo_of_last, with_faces}
use Rattle.s2ix_table_walk.specs.Table.{Range, IsRangeTable, leaf_end}
use Rattle.s2ix_table_walk.proofs.Tables.{same_table, table_from_places}

-- the counts that an edit records are those of the two collections
pub counts_recorded : (before after : State) (edit : Edit) → IsStore before → after ≡ after_edit before edit → (pair : Pair)
    → counts_at (change_of before edit) (rank_of pair) ≡ difference_of (count_in before.bag.held pair) (count_in after.bag.held pair)
counts_recorded before after edit st is pair =
    counts_between before.bag.held (edited (history_of before) edit) pair st.bag.rises (held_edited_is_collection before edit st.bag.rises)
    ∙ ap (λ (t : State). difference_of (count_in before.bag.held pair) (count_in t.bag.held pair)) (sym is)

-- ---- two states field by field

same_state : (s t : State) → s.bag ≡ t.bag → s.done ≡ t.done → s.undone ≡ t.undone → s.faces_rebuilt ≡ t.faces_rebuilt → s ≡ t
same_state s t bag done undone faces =
    ap₂ (λ (b : LimitedCollection) (d : List (List Entry)).
    let r : State = record { bag = b; done = d; undone = s.undone; faces_rebuilt = s.faces_rebuilt } in r)
    bag done
    ∙ ap₂ (λ (u : List (List Entry)) (n : ℕ). let r : State = record { bag = t.bag; done = t.done; undone = u; faces_rebuilt = n } in r)
    undone faces

-- equal states have the same bag and the same changes
pub same_parts : (s t : State) → s ≡ t → (s.bag ≡ t.bag) × (s.done ≡ t.done) × (s.undone ≡ t.undone)
same_parts s t is = (ap (λ (r : State). r.bag) is, ap (λ (r : State). r.done) is, ap (λ (r : State). r.undone) is)

front_left : (from front : List (List Entry)) (es : List Entry) → from ≡ front ++ es ∷ [] → front ≡ take (length from - 1) from
front_left from front es is =
    sym (ap (λ (l : List (List Entry)). take (length l - 1) l) is ∙ front_of front es)

-- ---- an undo

undone_state : (before after : State) (es : List Entry) → Undoes before after es → with_faces after (faces_of es) ≡ after_undo before
undone_state before after es u =
    same_state (with_faces after (faces_of es)) (after_undo_of before es) u.bag (front_left before.done after.done es u.done) u.undone refl
    ∙ sym (undo_of_last before after.done es u.done)

-- an edit that is undone leaves the bag and what was done before it as they were, and its change to be done again
pub edit_taken_back : (s before after : State) (edit : Edit) (es : List Entry) → IsStore s → before ≡ after_edit s edit
    → Undoes before after es
    → (after.bag ≡ s.bag) × (after.done ≡ s.done) × (after.undone ≡ change_of s edit ∷ [])
edit_taken_back s before after edit es st is u =
    same_parts (with_faces after (faces_of es))
    (record { bag = s.bag; done = s.done; undone = change_of s edit ∷ []; faces_rebuilt = faces_of (change_of s edit) })
    (undone_state before after es u ∙ ap after_undo is ∙ undo_of_edit s edit st)

-- ---- a redo

redone_state : (before after : State) (es : List Entry) → Redoes before after es → with_faces after (faces_of es) ≡ after_redo before
redone_state before after es r =
    same_state (with_faces after (faces_of es)) (after_redo_of before es) r.bag r.done (front_left before.undone after.undone es r.undone)
    refl
    ∙ sym (redo_of_last before after.undone es r.undone)

-- an undo that is redone leaves the bag and both lists of changes as they were
pub undo_taken_back : (s before after : State) (es : List Entry) → IsStore s → s.done ≢ [] → before ≡ after_undo s → Redoes before after es
    → (after.bag ≡ s.bag) × (after.done ≡ s.done) × (after.undone ≡ s.undone)
undo_taken_back s before after es st some is r =
    same_parts (with_faces after (faces_of es)) (with_faces s (faces_of (get_or s.done (length s.done - 1) [])))
    (redone_state before after es r ∙ ap after_redo is ∙ redo_of_undo s st some)

-- ---- the range table

-- two equal bags have one range table
pub same_tables : (bag other : LimitedCollection) (xs ys : List Range) → other ≡ bag → IsRangeTable bag.held xs → IsRangeTable other.held ys
    → ys ≡ xs
same_tables bag other xs ys is x y =
    let OfBag : LimitedCollection → Type 0 = λ b. IsRangeTable b.held ys in
    let y' = subst OfBag is y in
    same_table bag.held 1 ys xs leaf_end (table_from_places bag.held 1 leaf_end ys y') (table_from_places bag.held 1 leaf_end xs x)
