use Rattle.std.proofs.Common.{◌-◌, ◌<◌, ◌≤◌, length, slice_index_or}
use Rattle.s2ix_table_faced.proofs.blocks.last_start_by.Given as goal

abbrev pub invariant-loop-part : goal.invariant-loop-part
invariant-loop-part l = (l.part < length l.starts) × (slice_index_or l.starts l.part 0 ≤ l.leaf)

abbrev pub decreases-loop-part : goal.decreases-loop-part
decreases-loop-part l = length l.starts - l.part
