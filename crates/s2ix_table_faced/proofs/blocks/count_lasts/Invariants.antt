use Rattle.std.proofs.Common.{◌≡◌, ℕ, ◌+◌, ◌-◌, ◌*◌, ◌<◌, ◌≤◌, length, slice_index_or}
use Rattle.s2ix_table_spans.specs.Starts.{IsLastStart}
use Rattle.s2ix_table_faced.proofs.blocks.count_lasts.Given as goal

abbrev pub invariant-loop-block : goal.invariant-loop-block
invariant-loop-block l =
    (l.part < length l.starts)
    × (slice_index_or l.starts l.part 0 ≤ l.leaf)
    × (length l.lasts ≡ length l.fn.lasts)
    × (l.block ≤ length l.lasts)
    × (l.leaf ≡ l.block * l.size + 1)
    × ((b : ℕ) → b < l.block → IsLastStart l.starts (b * l.size + 1) (slice_index_or l.lasts b 0))

abbrev pub decreases-loop-block : goal.decreases-loop-block
decreases-loop-block l = length l.initial.lasts - l.block
