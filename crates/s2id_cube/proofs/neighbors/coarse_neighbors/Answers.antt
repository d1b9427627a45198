use Rattle.s2id_core.specs.CellId.{path_of}
use Rattle.s2id_core.proofs.Numbers.{path_of_cell}
use Rattle.s2id_cube.proofs.Tiles.{own_square}
use Rattle.s2id_cube.proofs.neighbors.coarse_neighbors.Goals as goal

pub over_side-requires-clause-square : goal.over_side-requires-clause-square
over_side-requires-clause-square c = own_square (path_of c.args.cell) (path_of_cell c.args.cell.raw c.args.cell.valid) c.to_face_ij-square.result c.to_face_ij-square.ensures

pub over_side-requires-2-clause-square : goal.over_side-requires-2-clause-square
over_side-requires-2-clause-square c = own_square (path_of c.args.cell) (path_of_cell c.args.cell.raw c.args.cell.valid) c.to_face_ij-square.result c.to_face_ij-square.ensures

pub over_side-requires-3-clause-square : goal.over_side-requires-3-clause-square
over_side-requires-3-clause-square c = own_square (path_of c.args.cell) (path_of_cell c.args.cell.raw c.args.cell.valid) c.to_face_ij-square.result c.to_face_ij-square.ensures

pub over_side-requires-4-clause-square : goal.over_side-requires-4-clause-square
over_side-requires-4-clause-square c = own_square (path_of c.args.cell) (path_of_cell c.args.cell.raw c.args.cell.valid) c.to_face_ij-square.result c.to_face_ij-square.ensures
