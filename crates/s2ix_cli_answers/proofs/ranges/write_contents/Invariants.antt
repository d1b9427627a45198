-- The pairs so far are counted; of their lines a front was put and the rest is gathered.
use Rattle.std.proofs.Common.{◌≡◌, take, length, flat_map}
use Rattle.s2id_core.specs.CellId.{raw_of}
use Rattle.s2ix_table_walk.specs.Contents.{contents_at}
use Rattle.s2ix_text_write.specs.Gathered.{IsGathered, gathered_in}
use Rattle.s2ix_text_write.specs.Lists.{held_line}
use Rattle.s2ix_cli_answers.proofs.ranges.write_contents.Given as goal

abbrev pub invariant-loop-held : goal.invariant-loop-held
invariant-loop-held g l =
    (goal.iterator-loop-held g).can_next l.held-iterator
    × (goal.iterator-loop-held g).is_finite l.held-iterator
    × (l.count ≡ length l.yielded)
    × IsGathered g.K.Sink l.fn.sink l.sink
    (flat_map held_line (take l.count (contents_at (raw_of l.fn.leaf) (g.T.RangeTable.pairs l.table)))) (gathered_in l.block)
