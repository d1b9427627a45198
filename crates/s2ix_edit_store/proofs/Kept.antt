-- Each step of a store leads to a store.
use Rattle.std.proofs.Common.{◌≡◌, ◌≢◌, ◌-◌, ◌<◌, ◌==◌, nat_lt, Bool, true, false, cond, List, [], length, take, get_or, Option, Some, None, refl, sym, ◌∙◌, subst, arith, leb-false, ltb-false}
use Rattle.std.specs.List.{list_any}
use Rattle.s2ix_bag_pairs.specs.declared.pair.Entry.{Entry}
use Rattle.s2ix_bag_lists.specs.Apply.{apply_refusal, first_mismatch}
use Rattle.s2ix_bag_pairs.specs.Change.{changed, inverse_of}
use Rattle.s2ix_bag_pairs.specs.Collection.{Collection, LimitedCollection, IsBag}
use Rattle.s2ix_bag_pairs.specs.Limits.{changes_limit, count_limit, pairs_limit}
use Rattle.s2ix_bag_pairs.proofs.Inverse.{inverse_keeps}
use Rattle.s2ix_bag_lists.proofs.Refusals.{before_from_no_mismatch, made_is_bag, refusal_of_taken, taken_from_none, within_from_none}
use Rattle.s2ix_edit_plan.specs.declared.errors.EditError.{EditError}
use Rattle.s2ix_edit_plan.specs.declared.errors.EditError.TheVariants.{JournalFull, NoSuchLabel, NotHeld, TooFine, NoSuchChange, BelowZero, NoChange, TooManyCopies, TooManyPairs}
use Rattle.s2ix_edit_plan.specs.declared.edit.Edit.{Edit}
use Rattle.s2ix_edit_plan.specs.Edit.{edited}
use Rattle.s2ix_edit_plan.specs.Plan.{Plans, entries_refusal}
use Rattle.s2ix_edit_plan.specs.Refusals.{edit_refusal}
use Rattle.s2ix_edit_plan.specs.State.{State, change_of, history_of}
use Rattle.s2ix_edit_plan.proofs.Edited.{edited_held, held_edited_is_collection}
use Rattle.s2ix_edit_plan.proofs.Plans.{makes_between}
use Rattle.s2ix_edit_plan.proofs.Refused.{some_entries}
use Rattle.s2ix_edit_store.specs.Store.{IsStore}
use Rattle.s2ix_edit_store.specs.Steps.{after_edit, after_forget, after_redo, after_redo_of, after_undo, after_undo_of, with_held}
use Rattle.s2ix_edit_store.proofs.AtCursor.{goes_back, goes_on, stands_recorded, stands_redone, stands_undone}
use Rattle.s2ix_edit_store.proofs.Planned.{planned_state, refusal_of_entries, stand}
use Rattle.s2ix_edit_store.proofs.Redone.{ends_in_last, redo_of_last}
use Rattle.s2ix_edit_store.proofs.Undone.{undo_of_last}

-- ---- an edit that is accepted

-- none of the first six refusals stands if there is none
none_of_six : (full label copies level change below : Bool) (rest : Option EditError)
    → cond full (Some JournalFull)
    (cond label (Some NoSuchLabel)
    (cond copies (Some NotHeld) (cond level (Some TooFine) (cond change (Some NoSuchChange) (cond below (Some BelowZero) rest)))))
    ≡ None
    → (full ≡ false) × (label ≡ false) × (copies ≡ false) × (level ≡ false) × (change ≡ false) × (below ≡ false)
none_of_six true label copies level change below rest none = cc
none_of_six false true copies level change below rest none = cc
none_of_six false false true level change below rest none = cc
none_of_six false false false true change below rest none = cc
none_of_six false false false false true below rest none = cc
none_of_six false false false false false true rest none = cc
none_of_six false false false false false false rest none = (refl, refl, refl, refl, refl, refl)

-- its journal has room, and the change that it records carries it out
pub record IsPlanned (s : State) (edit : Edit) : Type 0 where
  pub room : length s.done < changes_limit s.bag.limits
  pub plans : Plans s.bag s.done edit (change_of s edit)

planned : (s : State) (edit : Edit) → IsStore s → edit_refusal s edit ≡ None → IsPlanned s edit
planned s edit st none =
    let six = none_of_six _ _ _ _ _ _ _ none in
    let new = edited (history_of s) edit in
    let makes = makes_between s.bag new (change_of s edit) st.bag.rises (held_edited_is_collection s edit st.bag.rises) refl in
    record {
      room = leb-false _ _ six.0;
      plans = record {
        known = six.1;
        allowed = six.2;
        fits = six.3;
        stood = six.4;
        above = six.5;
        rises = makes.rises;
        matches = makes.matches;
        result = makes.result ∙ edited_held s edit (stand s st);
      };
    }

none_of_three : (same high many : Bool)
    → cond same (Some NoChange) (cond high (Some TooManyCopies) (cond many (Some TooManyPairs) None)) ≡ None
    → (high ≡ false) × (many ≡ false)
none_of_three true high many none = cc
none_of_three false true many none = cc
none_of_three false false true none = cc
none_of_three false false false none = (refl, refl)

-- a bag takes entries that a store does not refuse
pub taken_of_entries : (bag : LimitedCollection) (es : List Entry) → first_mismatch bag es ≡ None → entries_refusal bag es ≡ None
    → apply_refusal bag es ≡ None
taken_of_entries bag es matches none =
    let two = none_of_three (length es == 0) (list_any (λ e. nat_lt (count_limit bag.limits) e.after) es)
    (nat_lt (pairs_limit bag.limits) (length (changed bag.held es))) none in
    refusal_of_taken bag es (record {
      before = before_from_no_mismatch bag.held es matches;
      within = within_from_none (count_limit bag.limits) es two.0;
      within_limit = ltb-false _ _ two.1;
    })

pub edit_keeps : (s : State) (edit : Edit) → IsStore s → edit_refusal s edit ≡ None → IsStore (after_edit s edit)
edit_keeps s edit st none =
    let p = planned s edit st none in
    let es = change_of s edit in
    let accepted = refusal_of_entries s edit es st p.room p.plans ∙ none in
    let taken = taken_of_entries s.bag es p.plans.matches accepted in
    let Bag : Collection → Type 0 = λ hs. IsBag (with_held s.bag hs) in
    stands_recorded s (after_edit s edit) es (sym (planned_state s edit es st p.plans)) st p.room p.plans.rises
    (some_entries s.bag es accepted) taken
    (subst Bag (p.plans.result ∙ sym (edited_held s edit (stand s st)))
    (made_is_bag s.bag es st.bag p.plans.rises (taken_from_none s.bag es taken)))

-- ---- the other steps

pub undo_keeps : (s : State) → IsStore s → s.done ≢ [] → IsStore (after_undo s)
undo_keeps s st some =
    let front = take (length s.done - 1) s.done in
    let es = get_or s.done (length s.done - 1) [] in
    let is = ends_in_last s.done some in
    let back = goes_back s front es st is in
    let Stands : State → Type 0 = λ t. IsStore t in
    subst Stands (sym (undo_of_last s front es is))
    (stands_undone s (after_undo_of s es) es st (record { bag = refl; done = is; undone = refl })
    (made_is_bag s.bag (inverse_of es) st.bag (inverse_keeps es back.0) (taken_from_none s.bag (inverse_of es) back.2)))

pub redo_keeps : (s : State) → IsStore s → s.undone ≢ [] → IsStore (after_redo s)
redo_keeps s st some =
    let front = take (length s.undone - 1) s.undone in
    let es = get_or s.undone (length s.undone - 1) [] in
    let is = ends_in_last s.undone some in
    let on = goes_on s front es st is in
    let Stands : State → Type 0 = λ t. IsStore t in
    subst Stands (sym (redo_of_last s front es is))
    (stands_redone s (after_redo_of s es) es st (record { bag = refl; done = refl; undone = is })
    (made_is_bag s.bag es st.bag on.0 (taken_from_none s.bag es on.2)))

pub forget_keeps : (s : State) → IsStore s → IsStore (after_forget s)
forget_keeps s st = record { bag = st.bag; can_go_back = tt; can_go_on = tt; room = omega arith }
