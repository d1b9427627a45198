use Rattle.std.proofs.Common.{arith}
use Rattle.s2id_core.specs.CellId.{path_of}
use Rattle.s2id_core.proofs.Numbers.{path_of_cell}
use Rattle.s2id_core.proofs.Ancestry.{own_place}
use Rattle.s2id_cube.proofs.Leaves.{taken_is, shifted_to_leaf}
use Rattle.s2id_cube.proofs.face_ij.to_face_ij.Goals as goal

pub leaf_square-leaf-requires : goal.leaf_square-leaf-requires
leaf_square-leaf-requires c =
    let s = shifted_to_leaf c.level-level.result c.place_at-place.result c.level-level.ensures.at_most c.place_at-place.ensures.bound in
    omega arith

pub returns : goal.returns
returns c =
    let s = shifted_to_leaf c.level-level.result c.place_at-place.result c.level-level.ensures.at_most c.place_at-place.ensures.bound in
    taken_is (path_of c.args.cell) (path_of_cell c.args.cell.raw c.args.cell.valid) c.level-level.result c.place_at-place.result _ c.leaf_square-leaf.result c.level-level.ensures.level (own_place c.args.cell.raw c.level-level.result c.place_at-place.result c.level-level.ensures.level c.place_at-place.ensures.place) s.0 c.leaf_square-leaf.ensures
