use Rattle.std.proofs.Common.{◌≡◌, ◌-◌, ◌*◌, length, drop, ◌+◌}
use Rattle.s2ix_table_walk.specs.Stretches.{IsSample}
use Rattle.s2ix_table_spans.proofs.sample.sample_of.Given as goal

abbrev pub invariant-loop-k : goal.invariant-loop-k
invariant-loop-k l =
    IsSample (length l.fn.starts - 2) (drop 1 l.fn.starts) l.sample.items × (l.k ≡ length l.sample.items * 16 + 16)

abbrev pub decreases-loop-k : goal.decreases-loop-k
decreases-loop-k l = l.count + 1 - l.k
