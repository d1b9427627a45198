-- What the nodes of a table over a span say of it.
use Rattle.std.proofs.Common.{ℕ, List, arith}
use Rattle.s2ix_bag_pairs.specs.Collection.{Collection}
use Rattle.s2ix_table_spans.specs.Nodes.{AreNodes}
use Rattle.s2ix_table_spans.specs.SpanTable.{IsSpanTable}
use Rattle.s2ix_table_spans.specs.Starts.{ranges_from}
use Rattle.s2ix_table_spans.proofs.OnePlace.{one_place, has_place}
use Rattle.s2ix_table_spans.proofs.Ranges.{length_ranges}

pub spans : (held : Collection) (from to : ℕ) (outer starts firsts : List ℕ) → AreNodes held from to outer starts firsts
    → IsSpanTable (record { held = held; from = from; to = to; ranges = ranges_from held starts to })
spans held from to outer starts firsts nodes =
    record {
      rises = nodes.rises;
      within_limit = nodes.within_limit;
      within = nodes.within;
      table = nodes.table;
      ranges_few = let n = length_ranges held starts to in let within_limit = nodes.ranges_few in omega arith;
      once = record {
        place = λ start h i. has_place held outer start h nodes.size nodes.outwards i;
        same = λ start other p q h one two. one_place held outer start other p q h nodes.rises nodes.size nodes.outwards one two;
      };
    }
