-- One more is passed.
use Rattle.std.proofs.Common.{arith, ap, length, length-drop}
use Rattle.s2ix_table_queries.proofs.Linking.{some_linked}
use Rattle.s2ix_c_calls.proofs.Linked.{passed_linked}
use Rattle.s2ix_c_calls.proofs.chains.pass_linked.Goals as goal

pub loop-passed-preserved : goal.loop-passed-preserved
loop-passed-preserved c =
    let l = c.loop-passed in
    let within = c.if-place-held.true in (
      omega (arith, c.loop-passed-test.true),
      λ chain linked. passed_linked l.place l.passed (chain c.args.first) linked within (l.invariant.1 chain linked),
      λ chain linked.
          let left = ap length (l.invariant.1 chain linked) in
          omega (arith, left, length-drop l.passed (chain c.args.first), some_linked l.place linked within),
    )
