use Rattle.std.proofs.Common.{◌≡◌, ◌-◌, ◌%◌, ◌≤◌}
use Rattle.s2id_union.proofs.Adding.{IsBeingAdded}
use Rattle.s2id_union.proofs.span.add_span.Given as goal

abbrev pub invariant-loop-at : goal.invariant-loop-at
invariant-loop-at l =
    (IsBeingAdded l.fn.cells.items l.cells.items l.start l.limit l.at) × (l.start ≤ l.at) × (l.at ≤ l.limit) × (l.at % 2 ≡ 1)

abbrev pub decreases-loop-at : goal.decreases-loop-at
decreases-loop-at l = l.limit - l.at
