-- Tables over neighbouring spans of leaves, one after the other.
use Rattle.std.specs.Prelude.{◌≡◌, ℕ, List, [], ◌∷◌, flat_map}
use Rattle.s2ix_bag_pairs.specs.Collection.{Collection}
use Rattle.s2ix_table_spans.specs.SpanTable.{SpanRanges, IsSpanTable}

-- what some tables hold, one after the other
abbrev pub held_in : List SpanRanges → Collection
held_in tables = flat_map (λ t. t.held) tables

-- tables over spans that follow one another, from one leaf number up to another
abbrev pub AreNeighbours : ℕ → List SpanRanges → ℕ → Type 0
AreNeighbours from [] to = from ≡ to
AreNeighbours from (t ∷ ts) to = (t.from ≡ from) × IsSpanTable t × AreNeighbours t.to ts to
