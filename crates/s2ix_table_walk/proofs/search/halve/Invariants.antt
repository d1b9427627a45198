use Rattle.std.proofs.Common.{◌≡◌, ◌+◌, ◌-◌, ◌/◌, ◌^◌, ◌≤◌, ℕ}
use Rattle.s2id_core.specs.BinaryDigits.{binary_digits}
use Rattle.s2ix_table_walk.specs.Costs.{NoFewerProbes}
use Rattle.s2ix_table_walk.specs.Searching.{IsWindow}
use Rattle.s2ix_table_walk.proofs.search.halve.Given as goal

abbrev pub invariant-loop-half : goal.invariant-loop-half
invariant-loop-half g l =
    ((k : ℕ)
    × (l.half ≡ 2 ^ k / 2)
    × IsWindow (g.R.Reader.shown l.fn.reader).ranges l.leaf l.first (2 ^ k)
    × ((g.R.Reader.spent l.reader).probes + k
    ≤ (g.R.Reader.spent l.fn.reader).probes + binary_digits (l.fn.among.size - 1)))
    × (g.R.Reader.shown l.reader ≡ g.R.Reader.shown l.fn.reader)
    × ((g.R.Reader.spent l.reader).looks ≡ (g.R.Reader.spent l.fn.reader).looks)
    × NoFewerProbes (g.R.Reader.spent l.fn.reader) (g.R.Reader.spent l.reader)

abbrev pub decreases-loop-half : goal.decreases-loop-half
decreases-loop-half g l = l.half
