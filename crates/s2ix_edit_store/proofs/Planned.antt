-- What a store makes of planned entries.
use Rattle.std.proofs.Common.{◌≡◌, ◌<◌, List, length, sym, ap, ap₂, ◌∙◌, subst}
use Rattle.s2ix_bag_pairs.specs.declared.pair.Entry.{Entry}
use Rattle.s2ix_bag_pairs.specs.Collection.{LimitedCollection}
use Rattle.s2ix_bag_pairs.specs.Limits.{changes_limit}
use Rattle.s2ix_edit_plan.specs.declared.edit.Edit.{Edit}
use Rattle.s2ix_edit_plan.specs.Plan.{Plans, entries_refusal}
use Rattle.s2ix_edit_plan.specs.Refusals.{edit_refusal, plan_refusal}
use Rattle.s2ix_edit_plan.specs.State.{State, history_of}
use Rattle.s2ix_edit_plan.specs.History.{standing}
use Rattle.s2ix_edit_plan.proofs.Edited.{edited_held}
use Rattle.s2ix_edit_plan.proofs.Refused.{change_planned, planned_refusal, with_room}
use Rattle.s2ix_edit_store.specs.Steps.{after_edit, after_record, after_step}
use Rattle.s2ix_edit_store.specs.Store.{IsStore}
use Rattle.s2ix_edit_store.proofs.Followed.{done_to_cursor}

-- the changes that stand are those that were done
pub stand : (s : State) → IsStore s → standing (history_of s) ≡ s.done
stand s st = sym (done_to_cursor s st)

-- a plan after changes, and its refusal, are those after the same changes
pub plans_of : (bag : LimitedCollection) (changes done : List (List Entry)) (edit : Edit) (es : List Entry) → changes ≡ done
    → Plans bag changes edit es → Plans bag done edit es
plans_of bag changes done edit es is plans =
    let Planned : List (List Entry) → Type 0 = λ ess. Plans bag ess edit es in
    subst Planned is plans

pub refused_of : (bag : LimitedCollection) (changes done : List (List Entry)) (edit : Edit) → changes ≡ done
    → plan_refusal bag changes edit ≡ plan_refusal bag done edit
refused_of bag changes done edit is = ap (λ ess. plan_refusal bag ess edit) is

-- an edit makes what its planned entries make
pub planned_state : (s : State) (edit : Edit) (es : List Entry) → IsStore s → Plans s.bag s.done edit es
    → after_record s es ≡ after_edit s edit
planned_state s edit es st plans =
    ap₂ (after_step s) (plans.result ∙ sym (edited_held s edit (stand s st))) (sym (change_planned s edit es (stand s st) st.bag plans))

-- the refusal of an edit, read off its planned entries
pub refusal_of_entries : (s : State) (edit : Edit) (es : List Entry) → IsStore s → length s.done < changes_limit s.bag.limits
    → Plans s.bag s.done edit es → entries_refusal s.bag es ≡ edit_refusal s edit
refusal_of_entries s edit es st room plans =
    sym (with_room s edit (stand s st) room ∙ planned_refusal s.bag s.done edit es st.bag plans)
