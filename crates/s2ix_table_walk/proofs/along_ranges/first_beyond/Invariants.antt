use Rattle.std.proofs.Common.{◌-◌, length}
use Rattle.s2ix_table_walk.specs.Walking.{ArePassed}
use Rattle.s2ix_table_walk.proofs.along_ranges.first_beyond.Given as goal

abbrev pub invariant-loop-cell : goal.invariant-loop-cell
invariant-loop-cell l = ArePassed l.cells l.cell l.seen

abbrev pub decreases-loop-cell : goal.decreases-loop-cell
decreases-loop-cell l = length l.cells - l.cell
