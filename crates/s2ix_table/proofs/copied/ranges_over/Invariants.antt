use Rattle.std.proofs.Common.{◌-◌}
use Rattle.s2ix_table_walk.specs.Table.{leaf_end}
use Rattle.s2ix_table.proofs.Building.{IsBuilt}
use Rattle.s2ix_table.proofs.copied.ranges_over.Given as goal

abbrev pub invariant-loop-at : goal.invariant-loop-at
invariant-loop-at l = IsBuilt l.held l.ranges.items l.at

abbrev pub decreases-loop-at : goal.decreases-loop-at
decreases-loop-at l = leaf_end - l.at
