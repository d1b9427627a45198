use Rattle.std.proofs.Common.{List, map, refl, sym, ap, ◌∙◌, subst}
use Rattle.s2ix_bag_pairs.specs.declared.pair.Entry.{Entry}
use Rattle.s2ix_bag_pairs.specs.Change.{IsChangeList}
use Rattle.s2ix_edit_plan.specs.declared.edit.Edit.TheVariants.{Grow}
use Rattle.s2ix_edit_plan.specs.Plan.{Plans, first_copy}
use Rattle.s2ix_edit_plan.proofs.Grow.{first_copies_make}
use Rattle.s2ix_edit_plan.proofs.Plans.{plans_from_makes}
use Rattle.s2ix_edit_plan.proofs.edits.grow.plan.Goals as goal

pub from_vec-requires : goal.from_vec-requires
from_vec-requires c =
    let Rises : List Entry → Type 0 = λ es. IsChangeList es in
    let copies = c.in_ok-first_copies.ensures ∙ ap (map (first_copy c.args.label)) (c.as_slice.ensures.value ∙ c.in_ok-cells.ensures) in
    subst Rises (sym copies) (first_copies_make c.args.bag.now c.args.label c.args.level).rises

pub returns-clause-plan : goal.returns-clause-plan
returns-clause-plan c =
    λ changes.
    let edit = Grow c.args.label c.args.level in
    let Planned : List Entry → Type 0 = λ es. Plans c.args.bag.now changes edit es in
    let copies = c.in_ok-first_copies.ensures ∙ ap (map (first_copy c.args.label)) (c.as_slice.ensures.value ∙ c.in_ok-cells.ensures) in
    subst Planned (sym (c.from_vec.ensures ∙ copies))
    (plans_from_makes c.args.bag.now changes edit _ (sym c.lacks_label.ensures.lacks ∙ c.if-lacks_label.false) refl
    (sym c.is_too_fine.ensures ∙ c.if-is_too_fine.false) refl refl
    (first_copies_make c.args.bag.now c.args.label c.args.level))
