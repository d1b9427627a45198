use Rattle.std.proofs.Common.{◌≡◌, ◌<◌, ℕ, ◌⊎◌, length, Option, Some, None, Result, Err, sym, ap, ◌∙◌, subst, arith}
use Rattle.std.proofs.lemmas.Result.{IfErr-weaker, IfOk-weaker, on_ok_weaker, err_from_is_err_and}
use Rattle.s2ix_bag_pairs.specs.Limits.{changes_limit}
use Rattle.s2ix_edit_plan.specs.declared.errors.EditError.{EditError}
use Rattle.s2ix_edit_plan.specs.declared.errors.EditError.TheVariants.{NoChange, OutOfMemory}
use Rattle.s2ix_edit_plan.specs.Errors.{IsEditRefusal}
use Rattle.s2ix_edit_plan.specs.State.{State, history_of}
use Rattle.s2ix_edit_plan.specs.Plan.{IsPlanRefusal, Plans}
use Rattle.s2ix_edit_plan.specs.Refusals.{edit_refusal, plan_refusal}
use Rattle.s2ix_edit_plan.proofs.Refused.{change_planned, with_room}
use Rattle.s2ix_edit_store.specs.Store.{IsStore}
use Rattle.s2ix_edit_store.proofs.Answered.{Answers, answers_recorded, answers_refused, no_copies_answered, revert_accepted_or_same}
use Rattle.s2ix_edit_store.proofs.Followed.{history_edited}
use Rattle.s2ix_edit_store.proofs.Led.{counts_recorded}
use Rattle.s2ix_edit_store.proofs.Planned.{planned_state, plans_of, refusal_of_entries, refused_of, stand}
use Rattle.s2ix_edit_store.proofs.store.Store.edit.Given.{Over}
use Rattle.s2ix_edit_store.proofs.store.Store.edit.Goals.{After-from_residual, After-plan, In_ok-change}
use Rattle.s2ix_edit_store.proofs.store.Store.edit.Goals as goal

stood : (g : Over) (c : After-plan g) → IsStore c.args.self.now
stood g c = let Stands : State → Type 0 = λ s. IsStore s in subst Stands c.self.view_is c.self.invariant.0

room : (g : Over) (c : After-plan g) → length c.args.self.now.done < changes_limit c.args.self.now.bag.limits
room g c =
    let HasRoom : State → Type 0 = λ s. length s.done < changes_limit s.bag.limits in
    let limit = c.changes.ensures ∙ ap changes_limit c.limits.ensures in
    subst HasRoom c.self.view_is (omega (arith, limit))

plan : (g : Over) (c : In_ok-change g) → Plans c.args.self.now.bag c.args.self.now.done c.args.edit.now c.in_ok-change.change
plan g c =
    let Carries : State → Type 0 = λ s. Plans s.bag s.done c.args.edit.now c.in_ok-change.change in
    subst Carries c.self.view_is (plans_of _ _ _ _ _ c.as_slice.ensures.value c.in_ok-change.ensures.plan)

-- ---- an edit that has no plan

-- the refusal of the plan is that of the edit
fresh : (g : Over) (c : After-plan g)
    → plan_refusal c.self.inside.bag c.as_slice.result.now c.args.edit.now ≡ edit_refusal c.args.self.now c.args.edit.now
fresh g c =
    refused_of c.self.inside.bag _ _ c.args.edit.now c.as_slice.ensures.value
    ∙ ap (λ (t : State). plan_refusal t.bag t.done c.args.edit.now) c.self.view_is
    ∙ sym (with_room c.args.self.now c.args.edit.now (stand c.args.self.now (stood g c)) (room g c))

-- its error is that of the edit
unplanned : (g : Over) (c : After-plan g) (why : EditError) → IsPlanRefusal c.self.inside.bag c.as_slice.result.now c.args.edit.now why
    → IsEditRefusal why (edit_refusal c.args.self.now c.args.edit.now)
unplanned g c why refused =
    let Refused : Option EditError → Type 0 = λ refusal. IsEditRefusal why refusal in
    subst Refused (fresh g c) refused

told : (g : Over) (c : After-plan g) (r : Result ℕ EditError) (error why : EditError) → r ≡ Err error → error ≡ why
    → IsPlanRefusal c.self.inside.bag c.as_slice.result.now c.args.edit.now why → Answers c.args.self.now c.args.edit.now r
told g c r error why is same refused =
    let Refused : EditError → Type 0 = λ e. IsEditRefusal e (edit_refusal c.args.self.now c.args.edit.now) in
    answers_refused c.args.self.now c.args.edit.now r error (stood g c) is (subst Refused (sym same) (unplanned g c why refused))

-- and so the edit answers with it
untold : (g : Over) (c : After-from_residual g) → Answers c.args.self.now c.args.edit.now c.from_residual.result
untold g c =
    let p = err_from_is_err_and c.from_residual.result c.from_residual.ensures.1 in
    told g c.before.before.before c.from_residual.result p.0 c.in_err-change.field-0.0 p.1 p.2 c.in_err-change.ensures.refused

pub returns-in_err-change-clause-refused : goal.returns-in_err-change-clause-refused
returns-in_err-change-clause-refused g c =
    let a = (goal.at-returns-in_err-change-clause-refused g c).After-plan in
    let p = err_from_is_err_and c.from_residual.result c.from_residual.ensures.1 in
    rw (p.1, p.2) (unplanned g a c.in_err-change.field-0.0 c.in_err-change.ensures.refused)

pub returns-in_err-change-clause-full : goal.returns-in_err-change-clause-full
returns-in_err-change-clause-full g c = (untold g (goal.at-returns-in_err-change-clause-full g c).After-from_residual).full

pub returns-in_err-change-clause-no_such_label : goal.returns-in_err-change-clause-no_such_label
returns-in_err-change-clause-no_such_label g c = (untold g (goal.at-returns-in_err-change-clause-no_such_label g c).After-from_residual).no_such_label

pub returns-in_err-change-clause-not_held : goal.returns-in_err-change-clause-not_held
returns-in_err-change-clause-not_held g c = (untold g (goal.at-returns-in_err-change-clause-not_held g c).After-from_residual).not_held

pub returns-in_err-change-clause-too_fine : goal.returns-in_err-change-clause-too_fine
returns-in_err-change-clause-too_fine g c = (untold g (goal.at-returns-in_err-change-clause-too_fine g c).After-from_residual).too_fine

pub returns-in_err-change-clause-no_such_change : goal.returns-in_err-change-clause-no_such_change
returns-in_err-change-clause-no_such_change g c = (untold g (goal.at-returns-in_err-change-clause-no_such_change g c).After-from_residual).no_such_change

pub returns-in_err-change-clause-below_zero : goal.returns-in_err-change-clause-below_zero
returns-in_err-change-clause-below_zero g c = (untold g (goal.at-returns-in_err-change-clause-below_zero g c).After-from_residual).below_zero

pub returns-in_err-change-clause-too_many_copies : goal.returns-in_err-change-clause-too_many_copies
returns-in_err-change-clause-too_many_copies g c = (untold g (goal.at-returns-in_err-change-clause-too_many_copies g c).After-from_residual).too_many_copies

pub returns-in_err-change-clause-too_many_pairs : goal.returns-in_err-change-clause-too_many_pairs
returns-in_err-change-clause-too_many_pairs g c = (untold g (goal.at-returns-in_err-change-clause-too_many_pairs g c).After-from_residual).too_many_pairs

pub returns-in_err-change-clause-reverting : goal.returns-in_err-change-clause-reverting
returns-in_err-change-clause-reverting g c =
    λ takes wants.
    let a = (goal.at-returns-in_err-change-clause-reverting g c).After-plan in
    let p = err_from_is_err_and c.from_residual.result c.from_residual.ensures.1 in
    let both = sym p.1 ∙ wants in
    let same = p.2 in
    let why : c.in_err-change.field-0.0 ≡ OutOfMemory = cc in
    let was = c.in_err-change.was in
    let Either : Option EditError → Type 0 = λ refusal. (refusal ≡ None) ⊎ (refusal ≡ Some NoChange) in
    revert_accepted_or_same c.args.self.now c.args.edit.now (stood g a) takes
    (subst Either (fresh g a) (c.in_err-change.ensures.reverting takes (cc)))

-- ---- an edit whose planned entries are carried out

pub returns : goal.returns
returns g c =
    let s = c.args.self.now in
    let edit = c.args.edit.now in
    let es = c.in_ok-change.change in
    let r = c.record_change.result in
    let made = c.record_change.ensures in
    let a = (goal.at-returns g c).After-plan in
    let st = stood g a in
    let has_room = room g a in
    let plans = plan g (goal.at-returns g c).In_ok-change in
    let after = planned_state s edit es st plans in
    let refusal = refusal_of_entries s edit es st has_room plans in
    let answered = answers_recorded s edit es r st has_room plans made.accepted made.refused in
    let Refused : EditError → Option EditError → Type 0 = λ error o. IsEditRefusal error o in
    record {
      state = on_ok_weaker r (λ is. is ∙ after) made.state;
      history = on_ok_weaker r (λ is. ap history_of (is ∙ after) ∙ history_edited s edit st) made.state;
      number = IfOk-weaker r _ _ (λ n is. is ∙ ap length (sym (change_planned s edit es (stand s st) st.bag plans))) made.number;
      records = on_ok_weaker r (λ is. counts_recorded s _ edit st (is ∙ after)) made.state;
      accepted = on_ok_weaker r (λ none. sym refusal ∙ none) made.accepted;
      refused = IfErr-weaker r _ _ (λ error why. subst (Refused error) refusal why) made.refused;
      unchanged = made.unchanged;
      full = answered.full;
      no_such_label = answered.no_such_label;
      not_held = answered.not_held;
      too_fine = answered.too_fine;
      no_such_change = answered.no_such_change;
      below_zero = answered.below_zero;
      no_change = answered.no_change;
      too_many_copies = answered.too_many_copies;
      too_many_pairs = answered.too_many_pairs;
      nothing = λ none some. no_copies_answered s edit es r st has_room plans made.accepted made.refused made.memory none;
      reverting = λ takes wants. sym refusal ∙ made.memory wants;
    }
