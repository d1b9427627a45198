use Rattle.std.proofs.Common.{◌≡◌, ◌+◌, ◌-◌, length, ℕ, Bool}
use Rattle.s2ix_table_walk.specs.Calls.{MayVisit, CallsOn}
use Rattle.s2ix_table_walk.specs.Meeting.{meeting_of}
use Rattle.s2ix_table_walk.specs.Walking.{left_of}
use Rattle.s2ix_table_walk.proofs.walking.walk.Given as goal

abbrev pub invariant-loop-held : goal.invariant-loop-held
invariant-loop-held g l =
    (l.meeting.reader.ghost_name ≡ l.initial.meeting.reader.ghost_name)
    × (g.R.Reader.shown l.meeting.reader.now ≡ g.R.Reader.shown l.fn.reader)
    × (l.meeting.cells.now ≡ l.target)
    × MayVisit (λ p x. goal.F-pre g p x) (λ p x r q. goal.F-step g p x r q) l.f
    (left_of (g.R.Reader.shown l.meeting.reader.now) l.meeting.cells.now l.meeting.walk)
    × ((k : ℕ) (whole : Bool) (last : _)
    → CallsOn (λ p x r q. goal.F-step g p x r q) l.f
    (left_of (g.R.Reader.shown l.meeting.reader.now) l.meeting.cells.now l.meeting.walk) k whole last
    → CallsOn (λ p x r q. goal.F-step g p x r q) l.fn.f (meeting_of l.target (g.R.Reader.shown l.fn.reader).pairs)
    (length (meeting_of l.target (g.R.Reader.shown l.fn.reader).pairs)
    - length (left_of (g.R.Reader.shown l.meeting.reader.now) l.meeting.cells.now l.meeting.walk) + k) whole last)

abbrev pub decreases-loop-held : goal.decreases-loop-held
decreases-loop-held g l = length (left_of (g.R.Reader.shown l.meeting.reader.now) l.meeting.cells.now l.meeting.walk)
