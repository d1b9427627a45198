use Rattle.std.proofs.Common.{◌≡◌, ◌+◌, ◌^◌, ◌<◌, ◌≤◌, ◌-◌, ℕ, length, slice_index_or}
use Rattle.s2id_core.specs.declared.cell_id.CellId.{CellId}
use Rattle.s2id_core.specs.CellId.{raw_of, first_of}
use Rattle.s2ix_table_walk.proofs.along_ranges.last_begun.Given as goal

abbrev pub invariant-loop-last : goal.invariant-loop-last
invariant-loop-last l =
    ((j : ℕ) × (l.step ≡ 2 ^ j))
    × (l.k ≤ l.last)
    × (l.last < length l.cells)
    × ((d : CellId) → first_of (slice_index_or l.cells l.last d) < l.limit)

abbrev pub decreases-loop-last : goal.decreases-loop-last
decreases-loop-last l = length l.cells - l.last

abbrev pub invariant-loop-step : goal.invariant-loop-step
invariant-loop-step l =
    ((j : ℕ) × (l.step ≡ 2 ^ j))
    × (l.k ≤ l.last)
    × (l.last < length l.cells)
    × ((d : CellId) → first_of (slice_index_or l.cells l.last d) < l.limit)
    × ((d : CellId) → l.last + l.step < length l.cells → l.limit ≤ raw_of (slice_index_or l.cells (l.last + l.step) d))

abbrev pub decreases-loop-step : goal.decreases-loop-step
decreases-loop-step l = l.step
