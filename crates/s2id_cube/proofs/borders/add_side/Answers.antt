use Rattle.std.proofs.Common.{◌≡◌, ◌^◌, length, ap, arith, subst}
use Rattle.std.proofs.lemmas.List.{length_push}
use Rattle.std.proofs.lemmas.Nat.{one_shl}
use Rattle.s2id_cube.proofs.Gathering.{HasGained, gained_none, gained_push}
use Rattle.s2id_cube.proofs.borders.add_side.Goals as goal

pub loop-along-init : goal.loop-along-init
loop-along-init c = (gained_none _ c.args.square c.args.depth c.args.side, omega arith)

pub over_side-requires-clause-along : goal.over_side-requires-clause-along
over_side-requires-clause-along c =
    let one = one_shl c.args.depth 32 (let d = c.requires.depth in omega arith) in
    omega arith

pub loop-along-preserved : goal.loop-along-preserved
loop-along-preserved c =
    let one = one_shl c.args.depth 32 (let d = c.requires.depth in omega arith) in
    let more = length_push c.loop-along.cells.items c.over_side.result in
    let items = ap length c.in_ok-push.ensures.items in
    let so_far = c.loop-along.invariant.1 in (
      gained_push _ _ _ c.args.square c.args.depth c.args.side c.loop-along.along c.over_side.result c.requires.face c.requires.column c.requires.row c.requires.side (omega arith) c.loop-along.invariant.0 c.over_side.ensures c.in_ok-push.ensures.items,
      omega arith,
    )

pub returns-clause-cells : goal.returns-clause-cells
returns-clause-cells c =
    let one = one_shl c.args.depth 32 (let d = c.requires.depth in omega arith) in
    subst (λ k. HasGained c.args.cells.now.items c.loop-along.cells.items c.args.square c.args.depth c.args.side k) (let e : c.loop-along.along ≡ 2 ^ c.args.depth = omega arith in e) c.loop-along.invariant.0

pub returns-clause-length : goal.returns-clause-length
returns-clause-length c =
    let one = one_shl c.args.depth 32 (let d = c.requires.depth in omega arith) in
    let so_far = c.loop-along.invariant.1 in
    omega arith
