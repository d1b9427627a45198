use Rattle.std.proofs.Common.{◌+◌, ◌-◌, length, drop}
use Rattle.s2id_union.proofs.Sharing.{IsSharing}
use Rattle.s2id_union.proofs.shared.shared_cells.Given as goal

abbrev pub invariant-loop-i : goal.invariant-loop-i
invariant-loop-i l = IsSharing l.first l.second (drop l.i l.first) (drop l.j l.second) l.cells.items

abbrev pub decreases-loop-i : goal.decreases-loop-i
decreases-loop-i l = (length l.first - l.i) + (length l.second - l.j)
