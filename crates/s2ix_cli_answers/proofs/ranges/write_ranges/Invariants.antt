-- The lines of the ranges before this one were written whole.
use Rattle.std.proofs.Common.{Ok, take, flat_map}
use Rattle.s2ix_text_parts.specs.Puts.{Writes}
use Rattle.s2ix_cli_answers.specs.Ranges.{range_line}
use Rattle.s2ix_cli_answers.proofs.ranges.write_ranges.Given as goal

abbrev pub invariant-loop-k : goal.invariant-loop-k
invariant-loop-k g l =
    Writes {A = Unit {0}} g.K.Sink l.fn.sink l.sink (Ok tt) (flat_map range_line (take l.k (g.T.RangeTable.ranges l.table)))
