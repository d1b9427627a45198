-- A range table of the collection is the one that it has.
use Rattle.std.proofs.Common.{◌≤◌, ◌<◌, ℕ, List, sym, subst}
use Rattle.s2id_core.specs.CellId.{raw_of}
use Rattle.s2ix_table_walk.specs.Table.{Range}
use Rattle.s2ix_c_calls.specs.Ranges.{IsRangeOf}
use Rattle.s2ix_c_calls.proofs.ranges.range_of.Goals as goal

pub returns : goal.returns
returns c =
    subst
    (λ (ranges : List Range). IsRangeOf c.args.leaf ranges c.find-place.result c.range-row.result.start c.range-row.result.limit)
    (c.range_table_is_the_collections.ensures.only _ _ c.table-table.ensures.table)
    (record {
      within = c.find-place.ensures.within;
      starts = c.range-row.ensures.start;
      ends = c.range-row.ensures.limit;
      from = subst (λ (n : ℕ). n ≤ raw_of c.args.leaf) (sym c.range-row.ensures.start) c.find-place.ensures.start;
      to = subst (λ (n : ℕ). raw_of c.args.leaf < n) (sym c.range-row.ensures.limit) c.find-place.ensures.limit;
    })
