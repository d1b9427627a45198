use Rattle.std.proofs.Common.{◌≡◌, ◌*◌, ◌^◌, length, ◌∙◌, ap, arith, subst}
use Rattle.s2id_cube.proofs.Gathering.{HasSides, sides_none, sides_more}
use Rattle.s2id_cube.proofs.borders.cells_round.Goals as goal

pub loop-side-init : goal.loop-side-init
loop-side-init c = (sides_none _ c.args.square c.args.depth c.in_ok-cells.ensures.items, let none = ap length c.in_ok-cells.ensures.items in omega arith)

pub loop-side-preserved : goal.loop-side-preserved
loop-side-preserved c =
    let so_far = c.loop-side.invariant.1 in
    let more = c.in_ok-add_side.ensures.length in (
      sides_more _ _ c.args.square c.args.depth c.loop-side.side c.loop-side.invariant.0 c.in_ok-add_side.ensures.cells,
      omega arith,
    )

pub returns-clause-cells : goal.returns-clause-cells
returns-clause-cells c =
    subst (λ k. HasSides c.loop-side.cells.items c.args.square c.args.depth k) (let e : c.loop-side.side ≡ 4 = omega arith in e) c.loop-side.invariant.0

pub returns-clause-length : goal.returns-clause-length
returns-clause-length c =
    let so_far = c.loop-side.invariant.1 in
    let four : c.loop-side.side ≡ 4 = omega arith in
    so_far ∙ ap (λ k. k * 2 ^ c.args.depth) four
