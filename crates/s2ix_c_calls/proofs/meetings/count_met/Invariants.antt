-- The pairs that are counted and those that are still to come are as many as there were.
use Rattle.std.proofs.Common.{◌≡◌, ◌+◌, length}
use Rattle.s2ix_table_walk.specs.Meetings.{left_in}
use Rattle.s2ix_c_calls.proofs.meetings.count_met.Given as goal

abbrev pub invariant-loop-held : goal.invariant-loop-held
invariant-loop-held g l = l.left + length (left_in l.meeting) ≡ length (left_in l.fn.meeting)

abbrev pub decreases-loop-held : goal.decreases-loop-held
decreases-loop-held g l = length (left_in l.meeting)
