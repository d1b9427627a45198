use Rattle.std.proofs.Common.{rules, ◌+◌, ◌≤◌, List, All, sym, ◌∙◌, subst}
use Rattle.std.proofs.lemmas.Fn.{filter_same}
use Rattle.s2id_core.specs.declared.cell_id.CellId.{CellId}
use Rattle.s2id_core.specs.CellId.{level_of}
use Rattle.s2id_cube.proofs.Sorting.{rising, same_cells}
use Rattle.s2id_union.specs.Region.{HaveSameRegion}
use Rattle.s2ix_edit_plan.proofs.Beside.{AreNext}
use Rattle.s2ix_edit_plan.proofs.Grow.{fits_level, kept_are_grown, near_enough, outside_all}
use Rattle.s2ix_edit_plan.proofs.edits.grow.grown_cells.Goals as goal

pub cells_beside-requires-clause-level : goal.cells_beside-requires-clause-level
cells_beside-requires-clause-level c = fits_level c.args.level _ c.requires

pub cells_beside-requires-clause-near : goal.cells_beside-requires-clause-near
cells_beside-requires-clause-near c =
    let Near : List CellId → Type 0 = λ cells. All (λ (cell : CellId). c.args.level ≤ level_of cell + 8) cells in
    subst Near (sym (c.as_slice-2.ensures.value ∙ c.in_ok-cells.ensures)) (near_enough c.args.level _ c.requires)

pub returns : goal.returns
returns c =
    let Same : List CellId → Type 0 = λ cells. HaveSameRegion c.in_ok-region.region cells in
    let Next : List CellId → Type 0 = λ cells. AreNext c.args.level cells c.in_ok-grown.grown.items in
    filter_same _ (outside_all c.in_ok-region.region) _ (λ x b f k. search rules) _ _ c.retain.ensures.filtered
    ∙ kept_are_grown c.args.label c.args.level c.args.bag.now.held c.in_ok-region.region c.in_ok-grown.grown.items c.dedup.new.self.items
    (subst Same (c.as_slice.ensures.value ∙ c.in_ok-cells.ensures) c.in_ok-region.ensures.region)
    (subst Next (c.as_slice-2.ensures.value ∙ c.in_ok-cells.ensures) c.in_ok-grown.ensures)
    (same_cells c.in_ok-grown.grown.items c.sort_unstable.new.self.items c.dedup.new.self.items c.sort_unstable.ensures.permutation
    c.dedup.ensures.filtered)
    (rising c.sort_unstable.new.self.items c.dedup.new.self.items c.sort_unstable.ensures.sorted c.dedup.ensures.filtered)
