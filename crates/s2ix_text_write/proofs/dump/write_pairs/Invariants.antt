-- Of the lines of the pairs that came a front was put, and the rest is gathered.
use Rattle.std.proofs.Common.{◌≡◌, ◌++◌}
use Rattle.std.specs.Prelude.{flat_map}
use Rattle.s2ix_text_write.specs.Dump.{pair_line}
use Rattle.s2ix_text_write.specs.Gathered.{IsGathered, gathered_in}
use Rattle.s2ix_text_write.proofs.dump.write_pairs.Given as goal

abbrev pub invariant-loop-held : goal.invariant-loop-held
invariant-loop-held g l =
    (l.yielded ++ l.held-iterator ≡ l.bag.held)
    × IsGathered g.K.Sink l.fn.sink l.sink (flat_map pair_line l.yielded) (gathered_in l.block)
