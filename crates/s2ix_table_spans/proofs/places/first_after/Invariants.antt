-- Those that were looked at are counted.
use Rattle.std.proofs.Common.{◌-◌, ◌≤◌}
use Rattle.s2ix_table_spans.specs.Starts.{IsFirstAfter}
use Rattle.s2ix_table_spans.proofs.places.first_after.Given as goal

abbrev pub invariant-loop-place : goal.invariant-loop-place
invariant-loop-place l = IsFirstAfter l.starts l.leaf l.from l.place l.after × (l.place ≤ l.end)

abbrev pub decreases-loop-place : goal.decreases-loop-place
decreases-loop-place l = l.end - l.place
