use Rattle.std.proofs.Common.{length}
use Rattle.s2ix_table_spans.specs.Chains.{chain_of}
use Rattle.s2ix_table_spans.proofs.splice.Before.changed_block.Given as goal

abbrev pub invariant-loop-place : goal.invariant-loop-place
invariant-loop-place l = Unit {0}

abbrev pub decreases-loop-place : goal.decreases-loop-place
decreases-loop-place l = length (chain_of l.self.held.now l.place)
