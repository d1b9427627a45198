use Rattle.std.proofs.Common.{◌≡◌, ◌+◌, length}
use Rattle.s2id_cube.proofs.Gathering.{HasGained}
use Rattle.s2id_cube.proofs.borders.add_side.Given as goal

abbrev pub invariant-loop-along : goal.invariant-loop-along
invariant-loop-along l =
    HasGained l.fn.cells.items l.cells.items l.square l.depth l.side l.along × (length l.cells.items ≡ length l.fn.cells.items + l.along)
