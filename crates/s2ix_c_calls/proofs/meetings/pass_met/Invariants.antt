-- What is still to come is what comes after those that are passed.
use Rattle.std.proofs.Common.{◌≡◌, ◌-◌, ◌≤◌, drop}
use Rattle.s2ix_table_walk.specs.Meetings.{left_in}
use Rattle.s2ix_c_calls.proofs.meetings.pass_met.Given as goal

abbrev pub invariant-loop-passed : goal.invariant-loop-passed
invariant-loop-passed g l = (left_in l.meeting ≡ drop l.passed (left_in l.fn.meeting)) × (l.passed ≤ l.count)

abbrev pub decreases-loop-passed : goal.decreases-loop-passed
decreases-loop-passed g l = l.count - l.passed
