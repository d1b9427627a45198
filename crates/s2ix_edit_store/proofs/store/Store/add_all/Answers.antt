use Rattle.std.proofs.Common.{◌≡◌, ◌<◌, length, Option, sym, ap, ◌∙◌, subst, arith}
use Rattle.std.proofs.lemmas.Result.{IfErr-weaker, IfOk-weaker, on_ok_weaker}
use Rattle.s2ix_bag_pairs.specs.Limits.{changes_limit}
use Rattle.s2ix_edit_plan.specs.declared.errors.EditError.{EditError}
use Rattle.s2ix_edit_plan.specs.Errors.{IsEditRefusal}
use Rattle.s2ix_edit_plan.specs.Plan.{entries_refusal}
use Rattle.s2ix_edit_plan.specs.Rows.{PlansRows, rows_refusal}
use Rattle.s2ix_edit_plan.specs.State.{State, history_of}
use Rattle.s2ix_edit_plan.proofs.Rows.{rows_planned}
use Rattle.s2ix_edit_store.specs.Steps.{after_record, after_rows}
use Rattle.s2ix_edit_store.specs.Store.{IsStore}
use Rattle.s2ix_edit_store.proofs.Rows.{counts_grown, history_rows, nothing_answered_where, refusal_of_entries, rows_state}
use Rattle.s2ix_edit_store.proofs.store.Store.add_all.Given.{Over}
use Rattle.s2ix_edit_store.proofs.store.Store.add_all.Goals.{After-record_change}
use Rattle.s2ix_edit_store.proofs.store.Store.add_all.Goals as goal

stood : (g : Over) (c : After-record_change g) → IsStore c.args.self.now
stood g c = let Stands : State → Type 0 = λ s. IsStore s in subst Stands c.self.view_is c.self.invariant.0

room : (g : Over) (c : After-record_change g) → length c.args.self.now.done < changes_limit c.args.self.now.bag.limits
room g c =
    let HasRoom : State → Type 0 = λ s. length s.done < changes_limit s.bag.limits in
    let limit = c.changes-changes_limit.ensures ∙ ap changes_limit c.limits.ensures in
    subst HasRoom c.self.view_is (omega (arith, limit))

plans : (g : Over) (c : After-record_change g) → PlansRows c.args.self.now.bag c.args.rows.now c.in_ok-gains.gains
plans g c =
    let Carries : State → Type 0 = λ s. PlansRows s.bag c.args.rows.now c.in_ok-gains.gains in
    subst Carries c.self.view_is c.in_ok-gains.ensures.plan

after : (g : Over) (c : After-record_change g) → after_record c.args.self.now c.in_ok-gains.gains ≡ after_rows c.args.self.now c.args.rows.now
after g c = rows_state c.args.self.now c.args.rows.now c.in_ok-gains.gains (stood g c) (plans g c)

refusal : (g : Over) (c : After-record_change g)
    → entries_refusal c.args.self.now.bag c.in_ok-gains.gains ≡ rows_refusal c.args.self.now c.args.rows.now
refusal g c = refusal_of_entries c.args.self.now c.args.rows.now c.in_ok-gains.gains (stood g c) (room g c) (plans g c)

pub returns-in_ok-gains-clause-state : goal.returns-in_ok-gains-clause-state
returns-in_ok-gains-clause-state g c =
    let a = (goal.at-returns-in_ok-gains-clause-state g c).After-record_change in
    on_ok_weaker c.record_change.result (λ is. is ∙ after g a) c.record_change.ensures.state

pub returns-in_ok-gains-clause-history : goal.returns-in_ok-gains-clause-history
returns-in_ok-gains-clause-history g c =
    let a = (goal.at-returns-in_ok-gains-clause-history g c).After-record_change in
    on_ok_weaker c.record_change.result
    (λ is. ap history_of (is ∙ after g a) ∙ history_rows c.args.self.now c.args.rows.now (stood g a)) c.record_change.ensures.state

pub returns-in_ok-gains-clause-counts : goal.returns-in_ok-gains-clause-counts
returns-in_ok-gains-clause-counts g c =
    let a = (goal.at-returns-in_ok-gains-clause-counts g c).After-record_change in
    on_ok_weaker c.record_change.result
    (λ is. counts_grown c.args.self.now c.record_change.new.self c.args.rows.now (stood g a) (is ∙ after g a)) c.record_change.ensures.state

pub returns-in_ok-gains-clause-number : goal.returns-in_ok-gains-clause-number
returns-in_ok-gains-clause-number g c =
    let a = (goal.at-returns-in_ok-gains-clause-number g c).After-record_change in
    let st = stood g a in
    IfOk-weaker c.record_change.result _ _
    (λ n is. is ∙ ap length (sym (rows_planned c.args.self.now.bag c.args.rows.now c.in_ok-gains.gains st.bag (plans g a))))
    c.record_change.ensures.number

pub returns-in_ok-gains-clause-accepted : goal.returns-in_ok-gains-clause-accepted
returns-in_ok-gains-clause-accepted g c =
    let a = (goal.at-returns-in_ok-gains-clause-accepted g c).After-record_change in
    on_ok_weaker c.record_change.result (λ none. sym (refusal g a) ∙ none) c.record_change.ensures.accepted

pub returns-in_ok-gains-clause-refused : goal.returns-in_ok-gains-clause-refused
returns-in_ok-gains-clause-refused g c =
    let a = (goal.at-returns-in_ok-gains-clause-refused g c).After-record_change in
    let Refused : EditError → Option EditError → Type 0 = λ error o. IsEditRefusal error o in
    IfErr-weaker c.record_change.result _ _ (λ error why. subst (Refused error) (refusal g a) why) c.record_change.ensures.refused

pub returns-in_ok-gains-clause-no_change : goal.returns-in_ok-gains-clause-no_change
returns-in_ok-gains-clause-no_change g c =
    let a = (goal.at-returns-in_ok-gains-clause-no_change g c).After-record_change in
    let r = c.record_change.result in
    let Refused : EditError → Option EditError → Type 0 = λ error o. IsEditRefusal error o in
    nothing_answered_where c.args.self.now c.args.rows.now r (stood g a)
    (on_ok_weaker r (λ none. sym (refusal g a) ∙ none) c.record_change.ensures.accepted)
    (IfErr-weaker r _ _ (λ error why. subst (Refused error) (refusal g a) why) c.record_change.ensures.refused)
    (λ wants. sym (refusal g a) ∙ c.record_change.ensures.memory wants)
