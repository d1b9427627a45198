use Rattle.std.proofs.Common.{◌≤◌, ⊎_elim, arith, refl}
use Rattle.std.proofs.lemmas.Bool.{cases_lt}
use Rattle.s2id_core.specs.CellId.{level_of}
use Rattle.s2ix_edit_plan.proofs.Beside.{gained, next_in_border, sides_are_next}
use Rattle.s2ix_edit_plan.proofs.edits.grow.add_beside.Goals as goal

pub returns-in_ok-extend_from_slice : goal.returns-in_ok-extend_from_slice
returns-in_ok-extend_from_slice c =
    let sides = c.edge_neighbors.ensures in
    gained c.args.level c.args.cell _ c.edge_neighbors.result _ c.in_ok-extend_from_slice.ensures.items
    (λ x.
    sides_are_next c.args.level c.args.cell c.in-Some.outer x c.edge_neighbors.result (c.in-Some.ensures.found.0 refl)
    c.in-Some.ensures.path
    (record { four = omega (arith, c.edge_neighbors.type_inv); sides = sides.sides; only = sides.only }))

pub returns-in_ok-extend_from_slice-in-Ok : goal.returns-in_ok-extend_from_slice-in-Ok
returns-in_ok-extend_from_slice-in-Ok c =
    let coarser : level_of c.args.cell ≤ c.args.level = ⊎_elim (λ lt. omega (arith, lt))
    (λ le. let found = c.in_default.ensures.found.1 le in cc) (cases_lt (level_of c.args.cell) c.args.level) in
    gained c.args.level c.args.cell _ c.as_slice.result.now _ c.in_ok-extend_from_slice-in-Ok.ensures.items
    (λ x. next_in_border c.args.level c.args.cell x _ _ coarser c.as_slice.ensures.value (c.in-Ok.ensures.cells x))
