-- The leaves that were found are those of their numbers.
use Rattle.std.proofs.Common.{◌≡◌, ◌-◌, ◌<◌, length}
use Rattle.s2ix_table_queries.specs.ManyLeaves.{IsBatchAt}
use Rattle.s2ix_table_queries.proofs.each.batch_at.Given as goal

abbrev pub invariant-loop-count : goal.invariant-loop-count
invariant-loop-count l =
    IsBatchAt l.numbers l.from l.leaves l.count × (0 < l.count) × (length l.leaves ≡ 64)

abbrev pub decreases-loop-count : goal.decreases-loop-count
decreases-loop-count l = 64 - l.count
