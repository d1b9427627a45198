use Rattle.std.proofs.Common.{◌≡◌, ◌+◌, ◌-◌, ◌≤◌}
use Rattle.s2id_core.specs.BinaryDigits.{binary_digits}
use Rattle.s2ix_table_walk.specs.Costs.{NoFewerProbes}
use Rattle.s2ix_table_walk.specs.Searching.{IsNarrowing}
use Rattle.s2ix_table_walk.proofs.borders.narrow_by_borders.Given as goal

abbrev pub invariant-loop-at : goal.invariant-loop-at
invariant-loop-at g l =
    IsNarrowing (g.R.Reader.shown l.fn.reader) l.leaf l.at
    × (g.R.Reader.shown l.reader ≡ g.R.Reader.shown l.fn.reader)
    × ((g.R.Reader.spent l.reader).looks ≡ (g.R.Reader.spent l.fn.reader).looks)
    × NoFewerProbes (g.R.Reader.spent l.fn.reader) (g.R.Reader.spent l.reader)
    × ((g.R.Reader.spent l.reader).probes + binary_digits l.at.room
    ≤ (g.R.Reader.spent l.fn.reader).probes + binary_digits l.fn.begun.room)

abbrev pub decreases-loop-at : goal.decreases-loop-at
decreases-loop-at g l = l.at.high - l.at.low + l.at.among.size
