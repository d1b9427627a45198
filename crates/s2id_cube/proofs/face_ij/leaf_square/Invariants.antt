use Rattle.std.proofs.Common.{◌≡◌, ◌/◌, ◌%◌, ◌^◌}
use Rattle.s2id_cube.proofs.Groups.{IsDown}
use Rattle.s2id_cube.proofs.face_ij.leaf_square.Given as goal

abbrev pub invariant-loop-group : goal.invariant-loop-group
invariant-loop-group l = IsDown (l.place / 2 ^ 60) (l.place % 2 ^ 60) l.group l.rest l.square (l.start / 256) × (l.start % 256 ≡ 0)
