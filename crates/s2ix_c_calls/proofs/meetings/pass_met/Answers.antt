-- One more is passed.
use Rattle.std.proofs.Common.{arith, sym}
use Rattle.s2ix_table_walk.specs.Meetings.{left_in}
use Rattle.s2ix_c_calls.proofs.Filling.{passed_one}
use Rattle.s2ix_c_calls.proofs.meetings.pass_met.Goals as goal

pub loop-passed-preserved : goal.loop-passed-preserved
loop-passed-preserved g c = (
  sym (passed_one (left_in c.args.meeting.now) c.loop-passed.passed c.in-Some._held (left_in c.loop-passed.meeting) (left_in c.advance.new.self)
      c.loop-passed.invariant.0 c.in-Some.ensures.yields),
  omega arith,
)
