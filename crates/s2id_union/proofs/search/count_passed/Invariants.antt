use Rattle.std.proofs.Common.{ℕ, ◌-◌, ◌<◌, ◌≤◌, length, get_or}
use Rattle.s2id_core.specs.declared.cell_id.CellId.{CellId}
use Rattle.s2id_core.specs.CellId.{end_of}
use Rattle.s2id_union.proofs.search.count_passed.Given as goal

abbrev pub invariant-loop-low : goal.invariant-loop-low
invariant-loop-low l =
    (l.low ≤ l.high) × (l.high ≤ length l.cells) × ((j : ℕ) (d : CellId) → j < l.low → j < length l.cells → end_of (get_or l.cells j d) ≤ l.at) × ((j : ℕ) (d : CellId) → l.high ≤ j → j < length l.cells → l.at < end_of (get_or l.cells j d))

abbrev pub decreases-loop-low : goal.decreases-loop-low
decreases-loop-low l = l.high - l.low
