-- Rows added to the counts of a store.
use Rattle.std.proofs.Common.{◌≡◌, ◌↔◌, ℕ, ◌+◌, List, [], ◌∷◌, Bool, true, false, cond, find, Option, Some, None, Result, Err, OnOk, IfErr, refl, sym, ap, ap₂, ◌∙◌}
use Rattle.std.proofs.lemmas.Bool.{cond-false, leb-false, lt-leb}
use Rattle.s2ix_bag_pairs.specs.declared.pair.Entry.{Entry}
use Rattle.s2ix_bag_pairs.specs.declared.pair.Held.{Held}
use Rattle.s2ix_bag_pairs.specs.declared.pair.Pair.{Pair}
use Rattle.s2ix_bag_pairs.specs.Change.{change_between}
use Rattle.s2ix_bag_pairs.specs.Collection.{Collection, copies_in, count_in}
use Rattle.s2ix_bag_pairs.specs.Pair.{rank_of}
use Rattle.s2ix_bag_pairs.proofs.Inverse.{changed_inverse_between}
use Rattle.s2ix_edit_plan.specs.declared.errors.EditError.{EditError}
use Rattle.s2ix_edit_plan.specs.declared.errors.EditError.TheVariants.{JournalFull, NoChange, OutOfMemory}
use Rattle.s2ix_edit_plan.specs.declared.edit.Edit.TheVariants.{Add}
use Rattle.s2ix_edit_plan.specs.Edit.{edited}
use Rattle.s2ix_edit_plan.specs.Errors.{IsEditRefusal}
use Rattle.s2ix_edit_plan.specs.History.{with_next}
use Rattle.s2ix_edit_plan.specs.Plan.{entries_refusal}
use Rattle.s2ix_edit_plan.specs.Refusals.{edit_refusal, is_due, refusals_with_room}
use Rattle.s2ix_edit_plan.specs.Rows.{PlansRows, copies_at, rows_change, rows_plan_refusal, rows_refusal, with_rows}
use Rattle.s2ix_edit_plan.specs.State.{State, history_of}
use Rattle.s2ix_edit_plan.proofs.Edited.{edited_held}
use Rattle.s2ix_edit_plan.proofs.Rows.{nothing_from_refusal, refused_for_nothing, rows_counted, rows_planned, rows_refused, with_rows_keeps}
use Rattle.s2ix_edit_store.specs.Steps.{after_edit, after_record, after_rows, after_step, after_undo}
use Rattle.s2ix_edit_store.specs.Store.{HasRoom, IsStore}
use Rattle.s2ix_edit_store.proofs.Answered.{nothing_answered, only_where}
use Rattle.s2ix_edit_store.proofs.AtCursor.{history_step}
use Rattle.s2ix_edit_store.proofs.Planned.{stand}
use Rattle.s2ix_edit_store.proofs.Undone.{gone_back, undo_of_step}

-- ---- what is recorded

-- the rows make what their planned entries make
pub rows_state : (s : State) (rows : List Held) (es : List Entry) → IsStore s → PlansRows s.bag rows es
    → after_record s es ≡ after_rows s rows
rows_state s rows es st plans =
    ap₂ (after_step s) plans.result (sym (rows_planned s.bag rows es st.bag plans))

-- the history goes on to the collection with the rows
pub history_rows : (s : State) (rows : List Held) → IsStore s
    → history_of (after_rows s rows) ≡ with_next (history_of s) (with_rows rows s.bag.held)
history_rows s rows st =
    let hs = s.bag.held in
    let new = with_rows rows hs in
    history_step s new (rows_change hs rows) (changed_inverse_between hs new st.bag.rises (with_rows_keeps rows hs st.bag.rises))

-- each count grows by the copies that the rows have for its pair
pub counts_grown : (s after : State) (rows : List Held) → IsStore s → after ≡ after_rows s rows → (pair : Pair)
    → count_in after.bag.held pair ≡ count_in s.bag.held pair + copies_at rows (rank_of pair)
counts_grown s after rows st is pair =
    ap (λ (t : State). count_in t.bag.held pair) is ∙ rows_counted rows s.bag.held (rank_of pair) st.bag.rises

-- ---- the refusal

pub with_room : (s : State) (rows : List Held) → HasRoom s → rows_refusal s rows ≡ rows_plan_refusal s.bag rows
with_room s rows room = cond-false _ _ _ (lt-leb _ _ room)

pub refusal_of_entries : (s : State) (rows : List Held) (es : List Entry) → IsStore s → HasRoom s → PlansRows s.bag rows es
    → entries_refusal s.bag es ≡ rows_refusal s rows
refusal_of_entries s rows es st room plans = sym (with_room s rows room ∙ rows_refused s.bag rows es st.bag plans)

same_later : (full : Bool) (rest : Option EditError) → cond full (Some JournalFull) rest ≡ Some NoChange
    → (full ≡ false) × (rest ≡ Some NoChange)
same_later true rest is = cc
same_later false rest is = (refl, is)

-- rows are refused because nothing would change if the journal has room and no row has copies
pub nothing_where : (s : State) (rows : List Held) → IsStore s
    → (rows_refusal s rows ≡ Some NoChange) ↔ (HasRoom s × (copies_in rows ≡ 0))
nothing_where s rows st = (
  λ is. let parts = same_later _ _ is in (leb-false _ _ parts.0, nothing_from_refusal s.bag rows st.bag parts.1),
  λ parts. with_room s rows parts.0 ∙ refused_for_nothing s.bag rows st.bag parts.1,
)

-- and if memory is not wanted in its place, that is answered
pub nothing_answered_where : (s : State) (rows : List Held) (r : Result ℕ EditError) → IsStore s → OnOk r (rows_refusal s rows ≡ None)
    → IfErr r (λ error. IsEditRefusal error (rows_refusal s rows)) → (r ≡ Err OutOfMemory → rows_refusal s rows ≡ None)
    → (r ≡ Err NoChange) ↔ (HasRoom s × (copies_in rows ≡ 0))
nothing_answered_where s rows r st accepted refused memory =
    let refusal = rows_refusal s rows in (
      λ is. (nothing_where s rows st).0 (only_where r refusal NoChange (λ o own. own) accepted refused is),
      λ parts. nothing_answered r refusal ((nothing_where s rows st).1 parts) accepted refused memory,
    )

-- ---- an undo

pub undo_of_rows : (s : State) (rows : List Held) → IsStore s
    → after_undo (after_rows s rows) ≡ gone_back s (rows_change s.bag.held rows)
undo_of_rows s rows st = undo_of_step s (with_rows rows s.bag.held) st (with_rows_keeps rows s.bag.held st.bag.rises)

-- ---- one row

-- one row makes what an addition makes
one_row_held : (s : State) (row : Held) → IsStore s
    → with_rows (row ∷ []) s.bag.held ≡ edited (history_of s) (Add row.pair row.count)
one_row_held s row st = sym (edited_held s (Add row.pair row.count) (stand s st))

pub one_row_stored : (s : State) (row : Held) → IsStore s → after_rows s (row ∷ []) ≡ after_edit s (Add row.pair row.count)
one_row_stored s row st =
    ap (λ (new : Collection). after_step s new (change_between s.bag.held new))
    (one_row_held s row st)

pub one_row_refused : (s : State) (row : Held) → IsStore s → rows_refusal s (row ∷ []) ≡ edit_refusal s (Add row.pair row.count)
one_row_refused s row st =
    ap (λ (new : Collection). find (is_due s.bag s.done (Add row.pair row.count) new) (JournalFull ∷ refusals_with_room)) (one_row_held s row st)
