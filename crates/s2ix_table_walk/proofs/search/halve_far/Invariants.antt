use Rattle.std.proofs.Common.{◌≡◌, ◌+◌, ◌-◌, ◌≤◌}
use Rattle.s2id_core.specs.BinaryDigits.{binary_digits}
use Rattle.s2ix_table_walk.specs.Costs.{NoFewerProbes}
use Rattle.s2ix_table_walk.specs.Searching.{IsWindow}
use Rattle.s2ix_table_walk.proofs.search.halve_far.Given as goal

abbrev pub invariant-loop-left : goal.invariant-loop-left
invariant-loop-left g l =
    IsWindow (g.R.Reader.shown l.fn.reader).ranges l.leaf l.first l.left
    × (g.R.Reader.shown l.reader ≡ g.R.Reader.shown l.fn.reader)
    × ((g.R.Reader.spent l.reader).looks ≡ (g.R.Reader.spent l.fn.reader).looks)
    × NoFewerProbes (g.R.Reader.spent l.fn.reader) (g.R.Reader.spent l.reader)
    × ((g.R.Reader.spent l.reader).probes + binary_digits (l.left - 1)
    ≤ (g.R.Reader.spent l.fn.reader).probes + binary_digits (l.fn.among.size - 1))

abbrev pub decreases-loop-left : goal.decreases-loop-left
decreases-loop-left g l = l.left
