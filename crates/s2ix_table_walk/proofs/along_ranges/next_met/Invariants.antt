use Rattle.std.proofs.Common.{◌≡◌, ◌-◌, ◌≤◌, ℕ, None}
use Rattle.s2ix_table_walk.specs.Meeting.{meeting_from}
use Rattle.s2ix_table_walk.specs.Table.{leaf_end}
use Rattle.s2ix_table_walk.specs.Walking.{left_of, IsWalk, IsPaid}
use Rattle.s2ix_table_walk.proofs.along_ranges.next_met.Given as goal

abbrev pub invariant-loop-walk : goal.invariant-loop-walk
invariant-loop-walk g l =
    IsWalk (g.R.Reader.shown l.fn.reader) l.cells l.walk
    × (meeting_from l.cells l.walk.seen (g.R.Reader.shown l.fn.reader).pairs ≡ left_of (g.R.Reader.shown l.fn.reader) l.cells l.fn.walk)
    × (g.R.Reader.shown l.reader ≡ g.R.Reader.shown l.fn.reader)
    × ((calls : ℕ) → calls ≤ 1000000 → IsPaid (g.R.Reader.shown l.fn.reader) l.cells l.fn.walk calls (g.R.Reader.spent l.fn.reader)
    → IsPaid (g.R.Reader.shown l.fn.reader) l.cells l.walk calls (g.R.Reader.spent l.reader))
    × (l.walk.place ≡ None)

abbrev pub decreases-loop-walk : goal.decreases-loop-walk
decreases-loop-walk g l = leaf_end - l.walk.seen
