use Rattle.std.proofs.Common.{◌≡◌, ◌-◌, ◌%◌, ◌≤◌}
use Rattle.s2id_core.specs.Span.{leaf_end}
use Rattle.s2id_union.specs.Loops.{IsAhead}
use Rattle.s2id_union.proofs.Sweeping.{IsSwept}
use Rattle.s2id_union.proofs.sweep.sweep_both.Given as goal

abbrev pub invariant-loop-at : goal.invariant-loop-at
invariant-loop-at l =
    (IsSwept l.operation l.first l.second l.cells.items l.start l.at) × (IsAhead l.first l.i l.at) × (IsAhead l.second l.j l.at) × (l.start ≤ l.at) × (l.at ≤ leaf_end) × (l.at % 2 ≡ 1) × (l.start % 2 ≡ 1)

abbrev pub decreases-loop-at : goal.decreases-loop-at
decreases-loop-at l = leaf_end - l.at
