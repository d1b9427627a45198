use Rattle.std.proofs.Common.{◌≤◌, sym, subst, arith}
use Rattle.s2id_core.specs.CellId.{path_of}
use Rattle.s2id_core.proofs.Numbers.{path_of_cell}
use Rattle.s2id_core.proofs.Ancestry.{own_place}
use Rattle.s2id_cube.proofs.Squares.{IsSquare-square_at}
use Rattle.s2id_cube.proofs.Tiles.{tile_below, tile_is}
use Rattle.s2id_cube.proofs.tile.in_tile.Goals as goal

pub row_at-start-requires-clause-place : goal.row_at-start-requires-clause-place
row_at-start-requires-clause-place c = tile_below c.level-level.result c.place_at-place.result (subst (λ n. 4 ≤ n) (sym c.level-level.ensures.level) c.requires) c.place_at-place.ensures.bound

pub square_entry-entry-requires-clause-start : goal.square_entry-entry-requires-clause-start
square_entry-entry-requires-clause-start c =
    let fine = subst (λ n. 4 ≤ n) (sym c.level-level.ensures.level) c.requires in
    let is = IsSquare-square_at _ _ (tile_below c.level-level.result c.place_at-place.result fine c.place_at-place.ensures.bound) in
    let turn = is.orientation in
    let e = c.row_at-start.ensures in
    omega arith

pub returns : goal.returns
returns c =
    tile_is (path_of c.args.cell) (path_of_cell c.args.cell.raw c.args.cell.valid) c.level-level.result c.place_at-place.result c.row_at-start.result _ _ _
    (subst (λ n. 4 ≤ n) (sym c.level-level.ensures.level) c.requires) c.level-level.ensures.at_most c.place_at-place.ensures.bound
    (sym c.level-level.ensures.level) (sym (own_place c.args.cell.raw c.level-level.result c.place_at-place.result c.level-level.ensures.level c.place_at-place.ensures.place))
    c.row_at-start.ensures c.square_entry-entry.ensures.steps c.square_entry-entry.ensures.column c.square_entry-entry.ensures.row
