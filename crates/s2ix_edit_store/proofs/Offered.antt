-- A change that is given to a store alone, and rows that are removed from it.
use Rattle.std.proofs.Common.{◌≡◌, ◌↔◌, ◌+◌, ◌-◌, ◌<◌, ◌==◌, Bool, true, false, cond, List, [], ◌∷◌, ◌++◌, length, Option, Some, None, refl, sym, ap, ap₂, ◌∙◌, subst, arith, ne_eqb}
use Rattle.std.specs.Option.{option_map}
use Rattle.std.proofs.lemmas.Bool.{cond-false, leb-false, lt-leb}
use Rattle.std.proofs.lemmas.List.Elements.{All-cons, All-head, All-nil}
use Rattle.s2ix_bag_lists.specs.Apply.{apply_refusal, IsApplyRefusal}
use Rattle.s2ix_bag_lists.specs.declared.errors.ApplyError.{ApplyError}
use Rattle.s2ix_bag_lists.specs.declared.errors.ApplyError.TheVariants as apply
use Rattle.s2ix_bag_pairs.specs.declared.pair.Entry.{Entry}
use Rattle.s2ix_bag_pairs.specs.declared.pair.Held.{Held}
use Rattle.s2ix_bag_pairs.specs.declared.pair.Pair.{Pair}
use Rattle.s2ix_bag_pairs.specs.Change.{change_between, changed, IsChangeList}
use Rattle.s2ix_bag_pairs.specs.Collection.{Collection, LimitedCollection, IsBag, count_in}
use Rattle.s2ix_bag_pairs.specs.Limits.{changes_limit}
use Rattle.s2ix_bag_pairs.specs.Pair.{rank_of}
use Rattle.s2ix_bag.specs.Replay.{replay_refusal}
use Rattle.s2ix_bag.proofs.Forth.{first_taken, refusal_after}
use Rattle.s2ix_edit_plan.specs.declared.edit.Edit.TheVariants.{Remove}
use Rattle.s2ix_edit_plan.specs.declared.errors.RemoveError.{RemoveError}
use Rattle.s2ix_edit_plan.specs.History.{with_next}
use Rattle.s2ix_edit_plan.specs.Removals.{IsRemoveRefusal, TakesRows, removal_change, removal_plan_refusal, removal_refusal, without_rows}
use Rattle.s2ix_edit_plan.specs.Rows.{copies_at}
use Rattle.s2ix_edit_plan.specs.State.{State, history_of}
use Rattle.s2ix_edit_plan.proofs.Edited.{edited_held}
use Rattle.s2ix_edit_plan.proofs.Plans.{between_changed}
use Rattle.s2ix_edit_plan.proofs.Removals.{held_from_none, rows_taken, without_rows_keeps}
use Rattle.s2ix_edit_store.specs.declared.record_error.RecordError.{RecordError}
use Rattle.s2ix_edit_store.specs.declared.record_error.RecordError.TheVariants as alone
use Rattle.s2ix_edit_store.specs.Given.{after_apply, given_refusal, record_refusal}
use Rattle.s2ix_edit_store.specs.OneChange.{IsRecordRefusal, change_refusal, record_error}
use Rattle.s2ix_edit_store.specs.Steps.{after_edit, after_record, after_removal, after_step, after_undo, faces_of, with_held}
use Rattle.s2ix_edit_store.specs.Store.{HasRoom, IsStore}
use Rattle.s2ix_edit_store.proofs.AtCursor.{history_step, stands_recorded}
use Rattle.s2ix_edit_store.proofs.Histories.{HasEntries, few_are_recordable, neither_refused, recordable_are_few, recordable_have_entries, taken_whole}
use Rattle.s2ix_edit_store.proofs.Planned.{stand}
use Rattle.s2ix_edit_store.proofs.Taken.{changed_back, not_mismatched}
use Rattle.s2ix_edit_store.proofs.Undone.{gone_back, undo_of_step}
use Rattle.s2ix_bag_lists.proofs.Refusals.{made_is_bag, taken_from_none}

-- ---- a change that is given

-- the history goes on to what the change makes
pub history_made : (s : State) (es : List Entry) → IsBag s.bag → IsChangeList es → apply_refusal s.bag es ≡ None
    → history_of (after_record s es) ≡ with_next (history_of s) (changed s.bag.held es)
history_made s es b rises taken =
    history_step s (changed s.bag.held es) es (changed_back s.bag es b.rises rises (not_mismatched s.bag es taken))

pub history_recorded : (s : State) (es : List Entry) → IsStore s → IsChangeList es → apply_refusal s.bag es ≡ None
    → history_of (after_record s es) ≡ with_next (history_of s) (changed s.bag.held es)
history_recorded s es st rises taken = history_made s es st.bag rises taken

-- with room for a change that has entries, the bag alone refuses it
pub refused_by_bag : (s : State) (es : List Entry) → HasRoom s → 0 < length es
    → change_refusal s es ≡ option_map record_error (apply_refusal s.bag es)
refused_by_bag s es room some =
    let is_some : length es ≡ 0 → ⊥ = λ none. omega (arith, none, some) in
    cond-false _ _ _ (lt-leb _ _ room) ∙ cond-false _ _ _ (ne_eqb _ _ is_some)

-- and the error tells so
pub bag_error : (s : State) (es : List Entry) (error : ApplyError) → HasRoom s → 0 < length es
    → IsApplyRefusal error (apply_refusal s.bag es) → IsRecordRefusal (record_error error) (change_refusal s es)
bag_error s es (apply.Mismatch place) room some is = refused_by_bag s es room some ∙ ap (option_map record_error) is
bag_error s es apply.TooManyCopies room some is = refused_by_bag s es room some ∙ ap (option_map record_error) is
bag_error s es apply.TooManyPairs room some is = refused_by_bag s es room some ∙ ap (option_map record_error) is
bag_error s es apply.OutOfMemory room some is = refused_by_bag s es room some ∙ ap (option_map record_error) is

-- a change that is not refused finds room, has entries, and the bag takes it
refused_by : Bool → Bool → Option ApplyError → Option RecordError
refused_by full none refusal = cond full (Some alone.JournalFull) (cond none (Some alone.NoChange) (option_map record_error refusal))

accepted_by : (full none : Bool) (refusal : Option ApplyError) → refused_by full none refusal ≡ None
    → (full ≡ false) × (none ≡ false) × (refusal ≡ None)
unfolding refused_by
accepted_by true none refusal is = cc
accepted_by false true refusal is = cc
accepted_by false false (Some error) is = cc
accepted_by false false None is = (refl, refl, refl)

pub has_some : (es : List Entry) → (length es == 0) ≡ false → 0 < length es
has_some [] is = cc
has_some (e ∷ es) is = omega arith

pub accepted_parts : (s : State) (es : List Entry) → change_refusal s es ≡ None
    → HasRoom s × (0 < length es) × (apply_refusal s.bag es ≡ None)
unfolding refused_by
accepted_parts s es accepted =
    let parts = accepted_by _ _ (apply_refusal s.bag es) accepted in (leb-false _ _ parts.0, has_some es parts.1, parts.2)

pub record_keeps : (s : State) (es : List Entry) → IsStore s → IsChangeList es → change_refusal s es ≡ None → IsStore (after_record s es)
record_keeps s es st rises accepted =
    let parts = accepted_parts s es accepted in
    stands_recorded s (after_record s es) es refl st parts.0 rises parts.1 parts.2
    (made_is_bag s.bag es st.bag rises (taken_from_none s.bag es parts.2))

-- it is the one that `apply` does
pub one_given : (s : State) (es : List Entry) → (change_refusal s es ≡ None) ↔ (given_refusal s (es ∷ []) ≡ None)
one_given s es =
    let room = changes_limit s.bag.limits - length s.done in
    let first = record_refusal room (es ∷ []) in (
      λ accepted.
          let parts = accepted_parts s es accepted in
          let has_room : HasRoom s = parts.0 in
          taken_whole first (replay_refusal s.bag (es ∷ []))
          (few_are_recordable room (es ∷ []) (omega (arith, has_room)) (All-cons HasEntries es [] parts.1 (All-nil HasEntries)))
          (refusal_after s.bag (record { number = 1; change = es }) [] parts.2),
      λ accepted.
          let both = neither_refused first (replay_refusal s.bag (es ∷ [])) accepted in
          let within_limit = recordable_are_few room (es ∷ []) both.0 in
          let some = All-head HasEntries es [] (recordable_have_entries room (es ∷ []) both.0) in
          refused_by_bag s es (omega (arith, within_limit)) some
          ∙ ap (option_map record_error) (first_taken s.bag (record { number = 1; change = es }) [] both.1),
    )

pub one_applied : (s : State) (es : List Entry) → IsStore s → IsChangeList es → change_refusal s es ≡ None
    → after_apply s (es ∷ []) ≡ after_record s es
one_applied s es st rises accepted =
    let parts = accepted_parts s es accepted in
    ap (λ (ds : List Entry).
    let t : State =
    record { bag = with_held s.bag (changed s.bag.held es); done = s.done ++ es ∷ []; undone = []; faces_rebuilt = faces_of ds } in
    t)
    (between_changed s.bag es st.bag.rises rises (not_mismatched s.bag es parts.2))

-- ---- rows that are removed

-- the change that they make is that which takes them
pub removal_planned : (bag : LimitedCollection) (rows : List Held) (es : List Entry) → IsBag bag → TakesRows bag rows es
    → removal_change bag.held rows ≡ es
removal_planned bag rows es b takes =
    ap (λ hs. change_between bag.held hs) (sym takes.result)
    ∙ between_changed bag es b.rises takes.rises (not_mismatched bag es takes.taken)

pub removal_state : (s : State) (rows : List Held) (es : List Entry) → IsStore s → TakesRows s.bag rows es
    → after_record s es ≡ after_removal s rows
removal_state s rows es st takes =
    ap₂ (after_step s) takes.result (sym (removal_planned s.bag rows es st.bag takes))

pub history_removed : (s : State) (rows : List Held) (es : List Entry) → IsStore s → TakesRows s.bag rows es
    → history_of (after_record s es) ≡ with_next (history_of s) (without_rows rows s.bag.held)
history_removed s rows es st takes =
    history_recorded s es st takes.rises takes.taken ∙ ap (with_next (history_of s)) takes.result

-- each count loses the copies that the rows have for its pair
pub counts_lost : (s after : State) (rows : List Held) (es : List Entry) → IsStore s → TakesRows s.bag rows es → after ≡ after_removal s rows
    → (pair : Pair) → count_in s.bag.held pair ≡ count_in after.bag.held pair + copies_at rows (rank_of pair)
counts_lost s after rows es st takes is pair =
    omega (
      arith,
      held_from_none 0 rows s.bag.held (rank_of pair) st.bag.rises takes.held,
      rows_taken rows s.bag.held (rank_of pair) st.bag.rises,
      ap (λ (t : State). count_in t.bag.held pair) is,
    )

-- with room in the journal, the refusal is that of the plan
pub removal_with_room : (s : State) (rows : List Held) → HasRoom s → removal_plan_refusal s.bag.held rows ≡ removal_refusal s rows
removal_with_room s rows room = sym (cond-false _ _ _ (lt-leb _ _ room))

pub unplanned_removal : (s : State) (rows : List Held) (error : RemoveError) → HasRoom s
    → IsRemoveRefusal error (removal_plan_refusal s.bag.held rows) → IsRemoveRefusal error (removal_refusal s rows)
unplanned_removal s rows error room refused =
    let Refused : Option RemoveError → Type 0 = λ o. IsRemoveRefusal error o in
    subst Refused (removal_with_room s rows room) refused

-- removed rows and then an undo lead back
pub undo_of_removal : (s : State) (rows : List Held) → IsStore s
    → after_undo (after_removal s rows) ≡ gone_back s (removal_change s.bag.held rows)
undo_of_removal s rows st = undo_of_step s (without_rows rows s.bag.held) st (without_rows_keeps rows s.bag.held st.bag.rises)

-- one row is removed as `Remove` does
pub one_row_removed : (s : State) (row : Held) → IsStore s → after_removal s (row ∷ []) ≡ after_edit s (Remove row.pair row.count)
one_row_removed s row st =
    ap (λ (new : Collection). after_step s new (change_between s.bag.held new))
    (sym (edited_held s (Remove row.pair row.count) (stand s st)))
