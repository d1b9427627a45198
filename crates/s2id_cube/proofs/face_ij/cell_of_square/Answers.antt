use Rattle.std.proofs.Common.{◌*◌, ◌-◌, ◌^◌, ◌∙◌, arith}
use Rattle.s2id_core.specs.CellId.{path_of}
use Rattle.s2id_core.proofs.Numbers.{path_of_cell}
use Rattle.s2id_cube.proofs.Groups.{IsLeafPlace}
use Rattle.s2id_cube.proofs.Leaves.{shifted_coordinate, place_of_leaf, square_from_leaf}
use Rattle.s2id_cube.proofs.face_ij.cell_of_square.Goals as goal

pub leaf_place-leaf-requires-clause-column : goal.leaf_place-leaf-requires-clause-column
leaf_place-leaf-requires-clause-column c = let s = shifted_coordinate c.args.level c.args.i c.requires.level c.requires.i in omega arith

pub leaf_place-leaf-requires-clause-row : goal.leaf_place-leaf-requires-clause-row
leaf_place-leaf-requires-clause-row c = let s = shifted_coordinate c.args.level c.args.j c.requires.level c.requires.j in omega arith

pub at_place-requires-clause-within : goal.at_place-requires-clause-within
at_place-requires-clause-within c =
    let s = place_of_leaf c.args.level c.leaf_place-leaf.result c.requires.level c.leaf_place-leaf.ensures.below in
    omega arith

pub returns : goal.returns
returns c =
    let level = c.args.level in
    let leaf = c.leaf_place-leaf.result in
    let l = c.leaf_place-leaf.ensures in
    let i = shifted_coordinate level c.args.i c.requires.level c.requires.i in
    let j = shifted_coordinate level c.args.j c.requires.level c.requires.j in
    let s = place_of_leaf level leaf c.requires.level l.below in
    let at : IsLeafPlace c.args.face (c.args.i * 2 ^ (30 - level)) (c.args.j * 2 ^ (30 - level)) leaf = record { below = l.below; at_face = l.face; at_i = l.column ∙ i.0; at_j = l.row ∙ j.0 } in
    let r = square_from_leaf (path_of c.at_place.result) (path_of_cell c.at_place.result.raw c.at_place.result.valid) c.args.face c.args.i c.args.j level leaf c.requires.level c.at_place.ensures.level (c.at_place.ensures.place ∙ s.0) i.2 j.2 at in
    record { face = r.at_face; i = r.at_i; j = r.at_j; level = r.at_level }
