use Rattle.std.proofs.Common.{◌≡◌, ◌%◌, ◌≤◌}
use Rattle.s2id_core.specs.Span.{leaf_end}
use Rattle.s2id_union.proofs.Joining.{IsJoined}
use Rattle.s2id_union.proofs.join.join_spans.Given as goal

abbrev pub invariant-loop-cell : goal.invariant-loop-cell
invariant-loop-cell l =
    (IsJoined l.sorted l.cells.items l.cell-index l.start l.at) × (l.start ≤ l.at) × (l.at ≤ leaf_end) × (l.at % 2 ≡ 1) × (l.start % 2 ≡ 1)
