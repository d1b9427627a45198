use Rattle.std.proofs.Common.{length}
use Rattle.s2ix_table_walk.specs.Meeting.{meeting_of}
use Rattle.s2ix_table_walk.specs.Meetings.{left_in}
use Rattle.s2ix_table_queries.proofs.Labelling.{IsGathered}
use Rattle.s2ix_table_queries.proofs.labels.gather.Given as goal

abbrev pub invariant-loop-held : goal.invariant-loop-held
invariant-loop-held g l =
    IsGathered (meeting_of l.cells (g.T.RangeTable.pairs l.table)) (left_in l.meeting) l.labels.items

abbrev pub decreases-loop-held : goal.decreases-loop-held
decreases-loop-held g l = length (left_in l.meeting)
