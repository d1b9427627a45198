use Rattle.std.proofs.Common.{refl, arith}
use Rattle.s2id_cube.proofs.Woven.{lower_bits, woven_is}
use Rattle.s2id_cube.proofs.face_ij.weave.Goals as goal

pub overflow_add-result : goal.overflow_add-result
overflow_add-result c =
    let i = lower_bits c.args.i (omega arith) in
    let j = lower_bits c.args.j (omega arith) in
    omega arith

pub returns : goal.returns
returns c = woven_is c.args.i c.args.j _ _ (omega arith) (omega arith) refl refl
