use Rattle.std.proofs.Common.{◌-◌, ◌≤◌, arith}
use Rattle.s2ix_edit_plan.proofs.Removals.{halving_ends}
use Rattle.s2ix_edit_plan.proofs.edits.removals.place_not_held.Goals as goal

pub returns : goal.returns
returns c =
    let near : c.loop-high.high - c.loop-high.low ≤ 1 = omega (arith, c.loop-high-test.false) in
    halving_ends c.args.rows.now c.args.bag.now.held c.loop-high.low c.loop-high.high c.loop-high.invariant near
