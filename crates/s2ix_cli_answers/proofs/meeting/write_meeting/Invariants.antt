-- Of the lines of the pairs so far a front was put and the rest is gathered, and the other pairs of the meeting list are left.
use Rattle.std.proofs.Common.{◌≡◌, ◌≤◌, take, drop, length, flat_map}
use Rattle.s2ix_table_walk.specs.Meeting.{meeting_of}
use Rattle.s2ix_table_walk.specs.Meetings.{left_in}
use Rattle.s2ix_text_write.specs.Gathered.{IsGathered, gathered_in}
use Rattle.s2ix_text_write.specs.Lists.{held_line}
use Rattle.s2ix_cli_answers.proofs.meeting.write_meeting.Given as goal

abbrev pub invariant-loop-held : goal.invariant-loop-held
invariant-loop-held g l =
    let all = meeting_of l.target (g.T.RangeTable.pairs l.table) in
    (left_in l.meeting ≡ drop l.count all)
    × (l.count ≤ length all)
    × IsGathered g.K.Sink l.fn.sink l.sink (flat_map held_line (take l.count all)) (gathered_in l.block)

abbrev pub decreases-loop-held : goal.decreases-loop-held
decreases-loop-held g l = length (left_in l.meeting)
