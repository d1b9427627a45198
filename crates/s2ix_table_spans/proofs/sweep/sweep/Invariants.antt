use Rattle.std.proofs.Common.{◌≡◌, ◌≤◌, ◌-◌, length}
use Rattle.s2ix_table_spans.specs.Chains.{chain_of}
use Rattle.s2ix_table_spans.specs.Pass.{with_frontier}
use Rattle.s2ix_table_spans.specs.Sweep.{start_at}
use Rattle.s2ix_table_spans.proofs.Turning.{IsOnWay}
use Rattle.s2ix_table_spans.proofs.sweep.sweep.Given as goal

abbrev pub invariant-loop-depth : goal.invariant-loop-depth
invariant-loop-depth l =
    (l.bound ≡ start_at l.held l.order l.to l.k) × (l.frontier.at ≤ l.bound) × IsOnWay l.held l.order l.fn.pass.frontier.at l.to l.k l.depth l.lasts (with_frontier l.frontier l.pass)

abbrev pub decreases-loop-depth : goal.decreases-loop-depth
decreases-loop-depth l = length (chain_of l.held l.frontier.top)

abbrev pub invariant-loop-lasts : goal.invariant-loop-lasts
invariant-loop-lasts l = IsOnWay l.held l.order l.fn.pass.frontier.at l.to l.k l.depth l.lasts (with_frontier l.frontier l.pass)

abbrev pub decreases-loop-lasts : goal.decreases-loop-lasts
decreases-loop-lasts l = length l.order - l.k
