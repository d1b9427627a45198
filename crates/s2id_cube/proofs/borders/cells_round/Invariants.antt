use Rattle.std.proofs.Common.{◌≡◌, ◌*◌, ◌^◌, length}
use Rattle.s2id_cube.proofs.Gathering.{HasSides}
use Rattle.s2id_cube.proofs.borders.cells_round.Given as goal

abbrev pub invariant-loop-side : goal.invariant-loop-side
invariant-loop-side l = HasSides l.cells.items l.square l.depth l.side × (length l.cells.items ≡ l.side * 2 ^ l.depth)
