use Rattle.std.proofs.Common.{◌≡◌, ◌+◌, ◌*◌, get_or, ◌∙◌}
use Rattle.s2id_cube.proofs.Beside.{reversals, along_over, along_reversed, along_same, over_edge_at}
use Rattle.s2id_cube.proofs.neighbors.over_edge.Goals as goal
use Rattle.s2id_cube.proofs.neighbors.over_edge.Goals.{then-edge-eq0, else-edge-eq0}

pub returns : goal.returns
returns c =
    let r = get_or reversals (4 * c.args.face + c.args.side) 0 in
    let place : c.if-edge-eq0.place ≡ along_over r c.args.along c.args.last =
    elim c.if-edge-eq0.branch [
      | then-edge-eq0 w ↦ w.place-is ∙ along_same r c.args.along c.args.last w.if-edge-eq0.true
      | else-edge-eq0 w ↦ w.place-is ∙ along_reversed r c.args.along c.args.last w.if-edge-eq0.false
    ] in
    over_edge_at c.args.along c.args.last c.args.face c.args.side c.if-edge-eq0.place _ _ c.requires.along c.requires.face c.requires.side place c.on_side-i.ensures.column c.on_side-i.ensures.row
