use Rattle.std.proofs.Common.{◌+◌, ◌-◌, ◌/◌, ◌%◌, ap, ◌∙◌, arith}
use Rattle.s2id_core.specs.CellId.{path_of}
use Rattle.s2id_core.proofs.Numbers.{path_of_cell}
use Rattle.s2id_cube.specs.declared.face_ij.FaceIj.{FaceIj}
use Rattle.s2id_cube.proofs.Squares.{IsSquare-square_at}
use Rattle.s2id_cube.proofs.Tiles.{IsTileCell, tile_below, entry_leads, square_by_place}
use Rattle.s2id_cube.proofs.tile.cell_in.Goals as goal
use Rattle.s2id_cube.proofs.tile.cell_in.Goals.{After-place_entry-entry}

pub place_entry-entry-requires-clause-start : goal.place_entry-entry-requires-clause-start
place_entry-entry-requires-clause-start c =
    let r = c.requires in
    let tile = c.args.tile.now in
    let turn = (IsSquare-square_at (tile.level - 4) (tile.place / 256) (tile_below tile.level tile.place r.fine r.place)).orientation in
    let e = r.start in
    omega arith

-- the cell that the entry leads to
led : (c : After-place_entry-entry)
    → IsTileCell c.args.tile.now.level (c.args.tile.now.place / 256) (c.args.tile.now.place - c.args.tile.now.place % 256 + c.place_entry-entry.result % 256) c.args.column c.args.row
led c =
    let r = c.requires in
    let tile = c.args.tile.now in
    entry_leads tile.level tile.place tile.start c.args.column c.args.row c.place_entry-entry.result _ r.fine r.place r.start r.row c.place_entry-entry.ensures.steps

pub at_place-requires-clause-within : goal.at_place-requires-clause-within
at_place-requires-clause-within c = (led c).below

pub returns : goal.returns
returns c =
    let l = led (goal.at.returns c).After-place_entry-entry in
    let path = path_of_cell c.at_place.result.raw c.at_place.result.valid in
    let tile = c.args.tile.now in
    let same = square_by_place (path_of c.at_place.result) path tile.level _ c.at_place.ensures.level c.at_place.ensures.place in
    record {
      level = ap (λ (s : FaceIj). s.level) same ∙ (IsSquare-square_at tile.level _ l.below).level;
      face = ap (λ (s : FaceIj). s.face) same ∙ l.face;
      i = ap (λ (s : FaceIj). s.i) same ∙ l.at_i;
      j = ap (λ (s : FaceIj). s.j) same ∙ l.at_j;
    }
