-- One more pair is counted.
use Rattle.std.proofs.Common.{arith}
use Rattle.s2ix_c_calls.proofs.Linked.{one_more_linked}
use Rattle.s2ix_c_calls.proofs.chains.length_linked.Goals as goal

pub loop-left-preserved : goal.loop-left-preserved
loop-left-preserved c = (
  omega (arith, c.loop-left-test.true),
  λ chain linked. omega (arith, one_more_linked c.loop-left.place linked c.if-place-held.true, c.loop-left.invariant.1 chain linked),
)
