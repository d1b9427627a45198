use Rattle.std.proofs.Common.{List, refl, sym, ◌∙◌, subst}
use Rattle.s2ix_bag_pairs.specs.declared.pair.Entry.{Entry}
use Rattle.s2ix_bag_pairs.specs.Change.{IsChangeList}
use Rattle.s2ix_edit_plan.specs.declared.edit.Edit.TheVariants.{DropLabel}
use Rattle.s2ix_edit_plan.specs.Plan.{Plans}
use Rattle.s2ix_edit_plan.proofs.DropLabel.{removals_make}
use Rattle.s2ix_edit_plan.proofs.Plans.{plans_from_makes}
use Rattle.s2ix_edit_plan.proofs.edits.drop_label.plan.Goals as goal

pub from_vec-requires : goal.from_vec-requires
from_vec-requires c =
    let Rises : List Entry → Type 0 = λ es. IsChangeList es in
    subst Rises (sym c.in_ok-removals.ensures) (removals_make c.args.bag.now c.args.label c.lacks_label.ensures.within.rises).rises

pub returns-clause-plan : goal.returns-clause-plan
returns-clause-plan c =
    λ changes.
    let Planned : List Entry → Type 0 = λ es. Plans c.args.bag.now changes (DropLabel c.args.label) es in
    subst Planned (sym (c.from_vec.ensures ∙ c.in_ok-removals.ensures))
    (plans_from_makes c.args.bag.now changes (DropLabel c.args.label) _ (sym c.lacks_label.ensures.lacks ∙ c.if-lacks_label.false) refl refl
    refl refl
    (removals_make c.args.bag.now c.args.label c.lacks_label.ensures.within.rises))
