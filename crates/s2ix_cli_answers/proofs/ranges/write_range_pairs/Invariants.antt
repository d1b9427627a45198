-- The pairs so far were written whole.
use Rattle.std.proofs.Common.{Ok, take, length, flat_map}
use Rattle.s2ix_text_parts.specs.Puts.{Writes}
use Rattle.s2ix_table_walk.specs.Table.{range_at}
use Rattle.s2ix_cli_answers.specs.Ranges.{spaced_pair}
use Rattle.s2ix_cli_answers.proofs.ranges.write_range_pairs.Given as goal

abbrev pub invariant-loop-held : goal.invariant-loop-held
invariant-loop-held g l =
    (goal.iterator-loop-held g).can_next l.held-iterator
    × (goal.iterator-loop-held g).is_finite l.held-iterator
    × Writes {A = Unit {0}} g.K.Sink l.fn.sink l.sink (Ok tt)
    (flat_map spaced_pair (take (length l.yielded) (range_at (g.T.RangeTable.ranges l.table) l.k).contents))
