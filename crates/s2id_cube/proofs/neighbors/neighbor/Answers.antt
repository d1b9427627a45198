use Rattle.std.proofs.Common.{◌^◌, ◌≤◌, refl, sym, arith}
use Rattle.std.proofs.Math.Nat.{pow-le-pow_right}
use Rattle.std.proofs.lemmas.Nat.{one_shl, pow_pos}
use Rattle.s2id_cube.proofs.Beside.{beside_moved}
use Rattle.s2id_cube.proofs.neighbors.neighbor.Goals as goal

pub beside-face_over-requires-clause-last : goal.beside-face_over-requires-clause-last
beside-face_over-requires-clause-last c =
    let most : 2 ^ c.args.level ≤ 2 ^ 30 = pow-le-pow_right {n = 2} (omega arith) {i = c.args.level} {j = 30} c.requires.level in
    let one = one_shl c.args.level 32 (let l = c.requires.level in omega arith) in
    let some = pow_pos c.args.level in
    omega arith

pub cell_of_square-requires-clause-i : goal.cell_of_square-requires-clause-i
cell_of_square-requires-clause-i c =
    let one = one_shl c.args.level 32 (let l = c.requires.level in omega arith) in
    let some = pow_pos c.args.level in
    let b = c.beside-face_over.ensures.column in
    omega arith

pub cell_of_square-requires-clause-j : goal.cell_of_square-requires-clause-j
cell_of_square-requires-clause-j c =
    let one = one_shl c.args.level 32 (let l = c.requires.level in omega arith) in
    let some = pow_pos c.args.level in
    let b = c.beside-face_over.ensures.row in
    omega arith

pub returns-clause-beside : goal.returns-clause-beside
returns-clause-beside c =
    let one = one_shl c.args.level 32 (let l = c.requires.level in omega arith) in
    let some = pow_pos c.args.level in
    let r = c.cell_of_square.ensures in
    beside_moved (omega arith) refl refl refl refl (sym r.face) (sym r.i) (sym r.j) c.beside-face_over.ensures
