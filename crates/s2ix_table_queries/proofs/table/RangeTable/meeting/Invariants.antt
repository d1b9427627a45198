use Rattle.std.proofs.Common.{◌≡◌, ◌++◌, length}
use Rattle.s2ix_table_walk.specs.Meeting.{meeting_of}
use Rattle.s2ix_table_walk.specs.Meetings.{left_in}
use Rattle.s2ix_table_queries.proofs.table.RangeTable.meeting.Given as goal

abbrev pub invariant-loop-held : goal.invariant-loop-held
invariant-loop-held g l =
    l.list.items ++ left_in l.meeting ≡ meeting_of l.target (g.Self.RangeTable.pairs l.self)

abbrev pub decreases-loop-held : goal.decreases-loop-held
decreases-loop-held g l = length (left_in l.meeting)
