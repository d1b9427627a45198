-- What a table with shared chains keeps.
use Rattle.std.specs.Prelude.{◌≡◌, ℕ, ◌+◌, ◌*◌, ◌≤◌, List, length}
use Rattle.s2ix_bag_pairs.specs.Collection.{Collection, IsCollection}
use Rattle.s2ix_table_walk.specs.Table.{IsTableOver}
use Rattle.s2ix_table_spans.specs.Chains.{AreOuter, AreFirsts}
use Rattle.s2ix_table_spans.specs.SpanTable.{IsInSpan}
use Rattle.s2ix_table_spans.specs.Starts.{ranges_from}

-- one node for each pair, which leads outwards, and beside each start of a range the place of its innermost pair
pub record AreNodes (held : Collection) (from to : ℕ) (outer starts firsts : List ℕ) : Type 0 where
  pub rises : IsCollection held
  pub within_limit : length held ≤ 1000000
  pub within : IsInSpan held from to
  pub table : IsTableOver held from to (ranges_from held starts to)
  pub ranges_few : length starts ≤ 2 * length held + 1
  pub size : length outer ≡ length held
  pub outwards : AreOuter held outer
  pub leads : AreFirsts held starts firsts
