use Rattle.std.proofs.Common.{◌≡◌, true, refl, arith}
use Rattle.s2ix_edit_plan.specs.declared.edit.Edit.TheVariants.{Add}
use Rattle.s2ix_edit_plan.specs.Edit.{with_more}
use Rattle.s2ix_edit_plan.specs.Refusals.{has_count_above_every_limit}
use Rattle.s2ix_edit_plan.proofs.Above.{above_own}
use Rattle.s2ix_edit_plan.proofs.Plans.{add_plans}
use Rattle.s2ix_edit_plan.proofs.Refused.{sum_above, too_high}
use Rattle.s2ix_edit_plan.proofs.edits.add.plan.Goals.{In_default}
use Rattle.s2ix_edit_plan.proofs.edits.add.plan.Goals as goal

above : (c : In_default) → has_count_above_every_limit (with_more c.args.pair c.args.copies c.args.bag.now.held) ≡ true
above c =
    sum_above c.args.bag.now.held c.args.pair c.args.copies c.count-before.result c.count-before.ensures.within.rises
    c.count-before.ensures.count (omega (arith, c.in_default.ensures))

pub returns-in_default-clause-copies : goal.returns-in_default-clause-copies
returns-in_default-clause-copies c = λ is. above (goal.at-returns-in_default-clause-copies c).In_default

pub returns-in_default-clause-refused : goal.returns-in_default-clause-refused
returns-in_default-clause-refused c =
    λ changes.
    let bag = c.args.bag.now in
    too_high bag changes (Add c.args.pair c.args.copies) c.count-before.ensures.within refl refl refl refl refl
    (above_own bag (with_more c.args.pair c.args.copies bag.held) (above (goal.at-returns-in_default-clause-refused c).In_default))

pub returns-clause-plan : goal.returns-clause-plan
returns-clause-plan c =
    λ changes.
    add_plans c.args.bag.now changes c.args.pair c.args.copies _ _ _ c.count-before.ensures.within c.count-before.ensures.count
    (omega (arith, c.in-Some.ensures)) c.in_ok-one_pair.ensures.change

pub returns-in_default-clause-nothing : goal.returns-in_default-clause-nothing
returns-in_default-clause-nothing c =
    λ none.
    let h = c.in_default.ensures in
    let r = c.count-before.type_inv in
    absurd (omega (arith, h, r, none))
