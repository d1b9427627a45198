-- The start at hand is not after the leaf, and the next to try is no farther ahead than there are starts.
use Rattle.std.proofs.Common.{◌-◌, ◌<◌, ◌≤◌, ◌+◌, length, slice_index_or}
use Rattle.s2ix_table_spans.proofs.places.last_ahead.Given as goal

abbrev pub invariant-loop-step : goal.invariant-loop-step
invariant-loop-step l =
    (l.first < length l.starts) × (slice_index_or l.starts l.first 0 ≤ l.leaf) × (0 < l.step) × (l.step ≤ l.first + 1)

abbrev pub decreases-loop-step : goal.decreases-loop-step
decreases-loop-step l = length l.starts - l.first
