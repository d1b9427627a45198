use Rattle.std.proofs.Common.{◌≡◌, ◌<◌, length, None, sym, ap, ◌∙◌, subst, arith}
use Rattle.std.proofs.lemmas.Result.{err_from_is_err_and}
use Rattle.s2ix_bag_pairs.specs.Limits.{changes_limit}
use Rattle.s2ix_edit_plan.specs.declared.errors.RemoveError.{RemoveError}
use Rattle.s2ix_edit_plan.specs.Removals.{IsRemoveRefusal, TakesRows, removal_plan_refusal, removal_refusal}
use Rattle.s2ix_edit_plan.specs.State.{State, history_of}
use Rattle.s2ix_edit_store.specs.Steps.{after_record, after_removal}
use Rattle.s2ix_edit_store.specs.Store.{IsStore}
use Rattle.s2ix_edit_store.proofs.Offered.{counts_lost, history_removed, removal_planned, removal_state, removal_with_room, unplanned_removal}
use Rattle.s2ix_edit_store.proofs.store.Store.remove_all.Given.{Over}
use Rattle.s2ix_edit_store.proofs.store.Store.remove_all.Goals.{After-plan_removals, In_ok-losses}
use Rattle.s2ix_edit_store.proofs.store.Store.remove_all.Goals as goal

stood : (g : Over) (c : After-plan_removals g) → IsStore c.args.self.now
stood g c = let Stands : State → Type 0 = λ s. IsStore s in subst Stands c.self.view_is c.self.invariant.0

room : (g : Over) (c : After-plan_removals g) → length c.args.self.now.done < changes_limit c.args.self.now.bag.limits
room g c =
    let HasRoom : State → Type 0 = λ s. length s.done < changes_limit s.bag.limits in
    let limit = c.changes-changes_limit.ensures ∙ ap changes_limit c.limits.ensures in
    subst HasRoom c.self.view_is (omega (arith, limit))

takes : (g : Over) (c : In_ok-losses g) → TakesRows c.args.self.now.bag c.args.rows.now c.in_ok-losses.losses
takes g c =
    let Takes : State → Type 0 = λ s. TakesRows s.bag c.args.rows.now c.in_ok-losses.losses in
    subst Takes c.self.view_is c.in_ok-losses.ensures.plan

after : (g : Over) (c : In_ok-losses g) → after_record c.args.self.now c.in_ok-losses.losses ≡ after_removal c.args.self.now c.args.rows.now
after g c = removal_state c.args.self.now c.args.rows.now c.in_ok-losses.losses (stood g c.before.before) (takes g c)

pub returns-in_err-losses-clause-refused : goal.returns-in_err-losses-clause-refused
returns-in_err-losses-clause-refused g c =
    let a = (goal.at-returns-in_err-losses-clause-refused g c).After-plan_removals in
    let p = err_from_is_err_and c.from_residual.result c.from_residual.ensures.1 in
    let Refused : RemoveError → Type 0 = λ error. IsRemoveRefusal error (removal_refusal c.args.self.now c.args.rows.now) in
    let Told : State → Type 0 =
    λ s. IsRemoveRefusal c.in_err-losses.field-0.0 (removal_plan_refusal s.bag.held c.args.rows.now) in
    rw (p.1) (subst Refused (sym p.2)
    (unplanned_removal c.args.self.now c.args.rows.now c.in_err-losses.field-0.0 (room g a)
    (subst Told c.self.view_is c.in_err-losses.ensures.refused)))

pub returns-clause-state : goal.returns-clause-state
returns-clause-state g c =
    let a = (goal.at-returns-clause-state g c).In_ok-losses in
    c.in_ok-go_to.ensures.state ∙ after g a

pub returns-clause-history : goal.returns-clause-history
returns-clause-history g c =
    let a = (goal.at-returns-clause-history g c).In_ok-losses in
    ap history_of c.in_ok-go_to.ensures.state
    ∙ history_removed c.args.self.now c.args.rows.now c.in_ok-losses.losses (stood g a.before.before) (takes g a)

pub returns-clause-counts : goal.returns-clause-counts
returns-clause-counts g c =
    let a = (goal.at-returns-clause-counts g c).In_ok-losses in
    counts_lost c.args.self.now c.go_to.new.self c.args.rows.now c.in_ok-losses.losses (stood g a.before.before) (takes g a)
    (c.in_ok-go_to.ensures.state ∙ after g a)

pub returns-clause-number : goal.returns-clause-number
returns-clause-number g c =
    let a = (goal.at-returns-clause-number g c).In_ok-losses in
    let st = stood g a.before.before in
    c.in_ok-go_to.ensures.number ∙ ap length (sym (removal_planned c.args.self.now.bag c.args.rows.now c.in_ok-losses.losses st.bag (takes g a)))

pub returns-clause-accepted : goal.returns-clause-accepted
returns-clause-accepted g c =
    let a = (goal.at-returns-clause-accepted g c).In_ok-losses in
    let Taken : State → Type 0 = λ s. removal_plan_refusal s.bag.held c.args.rows.now ≡ None in
    sym (removal_with_room c.args.self.now c.args.rows.now (room g a.before.before)) ∙ subst Taken c.self.view_is c.in_ok-losses.ensures.accepted
