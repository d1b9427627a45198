-- The pairs before this place were read.
use Rattle.std.proofs.Common.{◌-◌}
use Rattle.s2ix_table_kept.proofs.OneByOne.{IsReading}
use Rattle.s2ix_table_kept.proofs.pair_reader.PairReader.read_between.Given as goal

abbrev pub invariant-loop-place : goal.invariant-loop-place
invariant-loop-place g l =
    IsReading (g.Self.PairReader.shown l.fn.self) l.from l.to l.place l.held.items (g.Self.PairReader.shown l.self)
    (g.Self.PairReader.spent l.fn.self) (g.Self.PairReader.spent l.self)

abbrev pub decreases-loop-place : goal.decreases-loop-place
decreases-loop-place g l = l.to - l.place
