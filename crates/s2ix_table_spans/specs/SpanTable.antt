-- What contracts see of a table over a span of leaves.
use Rattle.std.specs.Prelude.{◌≡◌, ℕ, ◌+◌, ◌*◌, ◌%◌, ◌<◌, ◌≤◌, List, length, Contains}
use Rattle.s2id_core.specs.CellId.{first_of, end_of}
use Rattle.s2ix_bag_pairs.specs.Collection.{Collection, IsCollection}
use Rattle.s2ix_bag_pairs.specs.declared.pair.Held.{Held}
use Rattle.s2ix_table_walk.specs.Table.{Range, IsTableOver}
use Rattle.s2ix_table_spans.specs.Chains.{chain_of}
use Rattle.s2ix_table_spans.specs.Once.{KeepsOnce}

-- held cells lie in a span of leaves, from a leaf number up to another
pub record IsInSpan (held : Collection) (from to : ℕ) : Type 0 where
  pub odd : from % 2 ≡ 1
  pub odd_end : to % 2 ≡ 1
  pub some : from < to
  pub begins : (h : Held) → Contains held h → from ≤ first_of h.pair.cell
  pub ends : (h : Held) → Contains held h → end_of h.pair.cell ≤ to

-- held pairs, the span of leaves that they lie in, and the ranges over it
pub record SpanRanges : Type 0 where
  pub held : Collection
  pub from : ℕ
  pub to : ℕ
  pub ranges : List Range

-- the ranges are those of the pairs over the span, and a pair has one place
pub record IsSpanTable (span : SpanRanges) : Type 0 where
  pub rises : IsCollection span.held
  pub within_limit : length span.held ≤ 1000000
  pub within : IsInSpan span.held span.from span.to
  pub table : IsTableOver span.held span.from span.to span.ranges
  pub ranges_few : length span.ranges ≤ 2 * length span.held + 1
  pub once : KeepsOnce (chain_of span.held)
