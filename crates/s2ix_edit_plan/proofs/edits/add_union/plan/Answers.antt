use Rattle.std.proofs.Common.{◌≡◌, ◌<◌, true, List, AllPairs, length, map, refl, sym, ap, ◌∙◌, subst, arith}
use Rattle.std.proofs.lemmas.List.{take_all}
use Rattle.s2id_core.specs.declared.cell_id.CellId.{CellId}
use Rattle.s2id_core.specs.CellId.{raw_of}
use Rattle.s2ix_bag_pairs.specs.declared.pair.Entry.{Entry}
use Rattle.s2ix_bag_pairs.specs.Change.{IsChangeList}
use Rattle.s2ix_edit_plan.specs.declared.edit.Edit.TheVariants.{AddUnion}
use Rattle.s2ix_edit_plan.specs.Edit.{with_each}
use Rattle.s2ix_edit_plan.specs.Plan.{Plans}
use Rattle.s2ix_edit_plan.specs.Refusals.{has_count_above_every_limit}
use Rattle.s2ix_edit_plan.proofs.Above.{above_own}
use Rattle.s2ix_edit_plan.proofs.AddUnion.{addition, addition_above, additions_make}
use Rattle.s2ix_edit_plan.proofs.Plans.{plans_from_makes}
use Rattle.s2ix_edit_plan.proofs.Refused.{too_high}
use Rattle.s2ix_edit_plan.proofs.edits.add_union.plan.Goals.{In_default}
use Rattle.s2ix_edit_plan.proofs.edits.add_union.plan.Goals as goal

above : (c : In_default) → has_count_above_every_limit (with_each c.args.label c.args.union.now c.args.bag.now.held) ≡ true
above c =
    let hs = c.args.bag.now.held in
    let label = c.args.label in
    let listed = c.cells-cell-items.ensures in
    let cells = c.cells-cell-items.result.now in
    let Rise : List CellId → Type 0 = λ cs. AllPairs (λ a b. raw_of a < raw_of b) cs in
    let Above : List CellId → Type 0 = λ cs. has_count_above_every_limit (with_each label cs hs) ≡ true in
    subst Above listed.list
    (addition_above label cells hs c.cell-item.result c.count-before.ensures.within.rises
    (subst Rise (sym listed.list) listed.normal.rises) (c.loop-cell.cell-index, omega arith, sym c.cell-item.is)
    (omega (arith, c.count-before.ensures.count, c.in_default.ensures)))

pub returns-in_default-clause-copies : goal.returns-in_default-clause-copies
returns-in_default-clause-copies c = λ is. above (goal.at-returns-in_default-clause-copies c).In_default

pub returns-in_default-clause-refused : goal.returns-in_default-clause-refused
returns-in_default-clause-refused c =
    λ changes.
    let bag = c.args.bag.now in
    too_high bag changes (AddUnion c.args.union.now c.args.label) c.count-before.ensures.within refl refl refl refl refl
    (above_own bag (with_each c.args.label c.args.union.now bag.held) (above (goal.at-returns-in_default-clause-refused c).In_default))

pub from_vec-requires : goal.from_vec-requires
from_vec-requires c =
    let Rises : List Entry → Type 0 = λ es. IsChangeList es in
    let listed = c.cells-cell-items.ensures in
    let cells = c.cells-cell-items.result.now in
    let all = c.loop-cell.invariant
    ∙ ap (λ cs. map (addition c.args.bag.now.held c.args.label) cs) (take_all c.loop-cell.cell-index cells (omega arith) ∙ listed.list) in
    subst Rises (sym all) (additions_make c.args.bag.now c.args.label c.args.union.now listed.normal.rises).rises

pub returns-clause-plan : goal.returns-clause-plan
returns-clause-plan c =
    λ changes.
    let Planned : List Entry → Type 0 = λ es. Plans c.args.bag.now changes (AddUnion c.args.union.now c.args.label) es in
    let listed = c.cells-cell-items.ensures in
    let cells = c.cells-cell-items.result.now in
    let all = c.loop-cell.invariant
    ∙ ap (λ cs. map (addition c.args.bag.now.held c.args.label) cs) (take_all c.loop-cell.cell-index cells (omega arith) ∙ listed.list) in
    subst Planned (sym (c.from_vec.ensures ∙ all))
    (plans_from_makes c.args.bag.now changes (AddUnion c.args.union.now c.args.label) _ refl refl refl refl refl
    (additions_make c.args.bag.now c.args.label c.args.union.now listed.normal.rises))

pub returns-in_default-clause-nothing : goal.returns-in_default-clause-nothing
returns-in_default-clause-nothing c =
    λ none.
    let all = ap length c.cells-cell-items.ensures.list in
    absurd (omega (arith, all, none))

pub returns-in_err-push_entry-clause-nothing : goal.returns-in_err-push_entry-clause-nothing
returns-in_err-push_entry-clause-nothing c =
    λ none.
    let all = ap length c.cells-cell-items.ensures.list in
    absurd (omega (arith, all, none))
