use Rattle.std.proofs.Common.{◌≡◌, ◌/◌, ◌%◌}
use Rattle.s2id_cube.proofs.Groups.{IsPairUp}
use Rattle.s2id_cube.proofs.face_ij.leaf_place.Given as goal

abbrev pub invariant-loop-pair : goal.invariant-loop-pair
invariant-loop-pair l = IsPairUp l.face l.i l.j l.initial.odd l.initial.even l.pair l.places (l.start / 256) l.odd l.even × (l.start % 256 ≡ 0)
