use Rattle.std.proofs.Common.{◌≡◌, ℕ, ◌+◌, ◌*◌, ◌<◌, ◌≤◌, length, get_or, take}
use Rattle.s2id_core.specs.declared.cell_id.CellId.{CellId}
use Rattle.s2id_core.specs.CellId.{first_of}
use Rattle.s2id_union.proofs.Counting.{total}
use Rattle.s2id_union.proofs.count.count_leaves.Given as goal

abbrev pub invariant-loop-cell : goal.invariant-loop-cell
invariant-loop-cell l =
    (l.count ≡ total (take l.cell-index l.cells)) × ((j : ℕ) (d : CellId) → l.cell-index ≤ j → j < length l.cells → 2 * l.count + 1 ≤ first_of (get_or l.cells j d))
