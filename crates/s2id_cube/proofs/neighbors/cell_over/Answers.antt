use Rattle.std.proofs.Common.{◌≡◌, ℕ, ◌+◌, ◌-◌, ◌*◌, ◌/◌, ◌<◌, arith}
use Rattle.s2id_core.specs.CellId.{path_of}
use Rattle.s2id_core.proofs.Numbers.{path_of_cell}
use Rattle.s2id_core.specs.declared.cell_id.CellId.{CellId}
use Rattle.s2id_cube.specs.Loops.{square_at, IsInTile, IsOverSide}
use Rattle.s2id_cube.specs.Square.{square_of}
use Rattle.s2id_cube.specs.declared.tile.InTile.{InTile}
use Rattle.s2id_cube.proofs.Grid.{IsStep}
use Rattle.s2id_cube.proofs.Tiles.{stepped_over}
use Rattle.s2id_cube.proofs.neighbors.cell_over.Goals as goal

-- a cell in a column and a row of the tile, which is a step over a side
in_tile : (cell result : CellId) (tile : InTile) (side column row : ℕ)
    → IsInTile (square_of (path_of cell)) tile.level tile.place tile.start tile.column tile.row → side < 4
    → (square_of (path_of result)).level ≡ tile.level
    → (square_of (path_of result)).face ≡ (square_at (tile.level - 4) (tile.place / 256)).face
    → (square_of (path_of result)).i ≡ 16 * (square_at (tile.level - 4) (tile.place / 256)).i + column
    → (square_of (path_of result)).j ≡ 16 * (square_at (tile.level - 4) (tile.place / 256)).j + row
    → IsStep side tile.column tile.row column row → IsOverSide (square_of (path_of cell)) side (path_of result)
in_tile cell result tile side column row is hs el ef ei ej step =
    let i = is.at_i in
    let j = is.at_j in
    stepped_over (square_of (path_of cell)) tile.level tile.place tile.start tile.column tile.row side (path_of result) is hs
    (path_of_cell result.raw result.valid) el ef (omega arith)

pub returns-then-tile-gt0 : goal.returns-then-tile-gt0
returns-then-tile-gt0 c =
    let e = c.cell_in.ensures in
    let test = c.if-tile-gt0.true in
    let few = c.requires.side in
    let side0 = c.if-side-eq0.true in
    in_tile c.args.cell c.cell_in.result c.args.tile.now c.args.side _ _ c.requires.tile few e.level e.face e.i e.j (omega arith)

pub returns-then-tile-lt15 : goal.returns-then-tile-lt15
returns-then-tile-lt15 c =
    let e = c.cell_in-then-tile-lt15.ensures in
    let test = c.if-tile-lt15.true in
    let few = c.requires.side in
    let side0 = c.if-side-eq1.true in
    in_tile c.args.cell c.cell_in-then-tile-lt15.result c.args.tile.now c.args.side _ _ c.requires.tile few e.level e.face e.i e.j (omega arith)

pub returns-then-tile-lt15-2 : goal.returns-then-tile-lt15-2
returns-then-tile-lt15-2 c =
    let e = c.cell_in-then-tile-lt15-2.ensures in
    let test = c.if-tile-lt15-2.true in
    let few = c.requires.side in
    let side0 = c.if-side-eq2.true in
    in_tile c.args.cell c.cell_in-then-tile-lt15-2.result c.args.tile.now c.args.side _ _ c.requires.tile few e.level e.face e.i e.j (omega arith)

pub returns-then-tile-gt0-2 : goal.returns-then-tile-gt0-2
returns-then-tile-gt0-2 c =
    let e = c.cell_in-then-tile-gt0-2.ensures in
    let test = c.if-tile-gt0-2.true in
    let few = c.requires.side in
    let side0 = c.if-side-eq0.false in
    let side1 = c.if-side-eq1.false in
    let side2 = c.if-side-eq2.false in
    in_tile c.args.cell c.cell_in-then-tile-gt0-2.result c.args.tile.now c.args.side _ _ c.requires.tile few e.level e.face e.i e.j (omega arith)
