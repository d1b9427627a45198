use Rattle.std.proofs.Common.{◌≡◌, sym, subst, ◌∙◌}
use Rattle.std.proofs.lemmas.Result.{err_from_is_err_and}
use Rattle.s2ix_edit_plan.specs.declared.errors.EditError.{EditError}
use Rattle.s2ix_edit_plan.specs.declared.errors.EditError.TheVariants.{NoChange, OutOfMemory}
use Rattle.s2ix_edit_plan.specs.Errors.{revert_error}
use Rattle.s2ix_edit_plan.specs.declared.edit.Edit.TheVariants.{Revert}
use Rattle.s2ix_edit_plan.specs.Plan.{IsPlanRefusal}
use Rattle.s2ix_edit_plan.proofs.Revert.{has_plan_back, never_same, plans_back, refused_back, wants_back}
use Rattle.s2ix_edit_plan.proofs.edits.revert.plan.Goals as goal

pub returns-in_err-reverting-clause-refused : goal.returns-in_err-reverting-clause-refused
returns-in_err-reverting-clause-refused c =
    let p = err_from_is_err_and c.from_residual.result c.from_residual.ensures.1 in
    let known = c.in_err-reverting.ensures in
    let Refused : EditError → Type 0 = λ error. IsPlanRefusal c.args.bag.now c.args.changes.now (Revert c.args.number) error in
    rw (p.1) (subst Refused (sym p.2)
    (refused_back c.args.bag.now c.args.changes.now c.args.number c.in-Some.change.now c.in_err-reverting.field-0.0
    c.reverting.ensures.within c.reverting.ensures.rises c.in-Some.ensures.some known.refused))

pub returns-clause-plan : goal.returns-clause-plan
returns-clause-plan c =
    let known = c.in_ok-reverting.ensures in
    plans_back c.args.bag.now c.args.changes.now c.args.number c.in-Some.change.now c.in_ok-reverting.field-0 c.reverting.ensures.rises
    c.in-Some.ensures.some known.accepted known.entries

pub returns-clause-fits : goal.returns-clause-fits
returns-clause-fits c =
    has_plan_back c.args.bag.now c.args.changes.now c.args.number c.in-Some.change.now c.reverting.ensures.within
    c.reverting.ensures.rises c.in-Some.ensures.some c.in_ok-reverting.ensures.accepted

pub returns-in_err-reverting-clause-memory : goal.returns-in_err-reverting-clause-memory
returns-in_err-reverting-clause-memory c =
    λ wants.
    let p = err_from_is_err_and c.from_residual.result c.from_residual.ensures.1 in
    let known = c.in_err-reverting.ensures in
    let error = c.in_err-reverting.field-0.0 in
    let both = sym p.1 ∙ wants in
    let told = p.2 in
    let answered : revert_error error ≡ OutOfMemory = cc in
    has_plan_back c.args.bag.now c.args.changes.now c.args.number c.in-Some.change.now c.reverting.ensures.within
    c.reverting.ensures.rises c.in-Some.ensures.some
    (wants_back error _ known.refused answered)

pub returns-in_err-reverting-clause-planned : goal.returns-in_err-reverting-clause-planned
returns-in_err-reverting-clause-planned c =
    λ is.
    let p = err_from_is_err_and c.from_residual.result c.from_residual.ensures.1 in
    let error = c.in_err-reverting.field-0.0 in
    let both = sym p.1 ∙ is in
    let told = p.2 in
    let answered : revert_error error ≡ NoChange = cc in
    never_same error answered
