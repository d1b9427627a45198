-- The entries are the change from the label's pairs to one copy at each cell of its region.
use Rattle.std.proofs.Common.{◌<◌, List, AllPairs, refl, sym, ap, ap₂, ◌∙◌, subst}
use Rattle.s2id_core.specs.declared.cell_id.CellId.{CellId}
use Rattle.s2id_core.specs.CellId.{raw_of}
use Rattle.s2ix_bag_pairs.specs.declared.pair.Entry.{Entry}
use Rattle.s2ix_bag_pairs.specs.Change.{change_between}
use Rattle.s2ix_bag_pairs.specs.Collection.{Collection, IsCollection}
use Rattle.s2ix_bag_pairs.proofs.OfLabel.{of_label_from}
use Rattle.s2ix_edit_plan.specs.declared.edit.Edit.TheVariants.{Normalise}
use Rattle.s2ix_edit_plan.specs.Plan.{Plans}
use Rattle.s2ix_edit_plan.specs.Region.{region_of}
use Rattle.s2ix_edit_plan.proofs.Normalise.{ones, ones_rise, replacement_makes}
use Rattle.s2ix_edit_plan.proofs.Plans.{plans_from_makes}
use Rattle.s2ix_edit_plan.proofs.edits.normalise.plan.Goals as goal

pub between_lists-requires-clause-old_rise : goal.between_lists-requires-clause-old_rise
between_lists-requires-clause-old_rise c =
    subst IsCollection (sym (c.as_slice.ensures.value ∙ c.in_ok-old.ensures))
    (of_label_from 0 c.args.label c.args.bag.now.held c.lacks_label.ensures.within.rises)

pub between_lists-requires-clause-new_rise : goal.between_lists-requires-clause-new_rise
between_lists-requires-clause-new_rise c =
    let Rise : List CellId → Type 0 = λ cs. AllPairs (λ a b. raw_of a < raw_of b) cs in
    let rises : Rise c.cells.result.now = subst Rise (sym c.cells.ensures.list) c.cells.ensures.normal.rises in
    subst IsCollection (sym (c.as_slice-2.ensures.value ∙ c.in_ok-new.ensures)) (ones_rise c.args.label c.cells.result.now rises)

pub returns-clause-plan : goal.returns-clause-plan
returns-clause-plan c =
    λ changes.
    let hs = c.args.bag.now.held in
    let label = c.args.label in
    let Planned : List Entry → Type 0 = λ es. Plans c.args.bag.now changes (Normalise label) es in
    let Rise : List CellId → Type 0 = λ cs. AllPairs (λ a b. raw_of a < raw_of b) cs in
    let cells = c.cells.ensures.list ∙ c.in_ok-region.ensures.form in
    let rises : Rise (region_of label hs) = subst Rise c.in_ok-region.ensures.form c.in_ok-region.ensures.normal.rises in
    let change = c.in_ok-between_lists.ensures
    ∙ ap₂ (λ (old new : Collection). change_between old new) (c.as_slice.ensures.value ∙ c.in_ok-old.ensures)
    (c.as_slice-2.ensures.value ∙ c.in_ok-new.ensures ∙ ap (λ cs. ones label cs) cells) in
    subst Planned (sym change)
    (plans_from_makes c.args.bag.now changes (Normalise label) _ (sym c.lacks_label.ensures.lacks ∙ c.if-lacks_label.false) refl refl refl
    refl
    (replacement_makes c.args.bag.now label (region_of label hs) c.lacks_label.ensures.within.rises rises))
