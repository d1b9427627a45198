-- The rows that are out, with those of the pairs that are still to come, are the meeting's.
use Rattle.std.proofs.Common.{◌≡◌, ◌++◌, ◌-◌, ◌≤◌, length, map, take, drop}
use Rattle.s2ix_table_walk.specs.Meetings.{left_in}
use Rattle.s2ix_c_calls.specs.Lists.{row_of}
use Rattle.s2ix_c_calls.proofs.meetings.write_met.Given as goal

abbrev pub invariant-loop-count : goal.invariant-loop-count
invariant-loop-count g l =
    (take l.count l.out ++ map row_of (left_in l.meeting) ≡ map row_of (left_in l.fn.meeting))
    × (l.count ≤ length l.out)
    × (drop l.count l.out ≡ drop l.count l.initial.out)
    × (length l.out ≡ length l.initial.out)

abbrev pub decreases-loop-count : goal.decreases-loop-count
decreases-loop-count g l = length l.out - l.count
