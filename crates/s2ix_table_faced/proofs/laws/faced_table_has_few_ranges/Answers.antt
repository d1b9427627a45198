use Rattle.s2ix_table_walk.specs.Table.{leaf_end}
use Rattle.s2ix_table_spans.proofs.Few.{few_ranges}
use Rattle.s2ix_table_faced.specs.Layout.{ranges_of, pairs_of}
use Rattle.s2ix_table_faced.proofs.laws.faced_table_has_few_ranges.Goals as goal

pub returns : goal.returns
returns c =
    let t = c.args.table.now in
    few_ranges (pairs_of t.parts.items t.heavy) 1 leaf_end
    (ranges_of t.parts.items t.heavy) t.table
