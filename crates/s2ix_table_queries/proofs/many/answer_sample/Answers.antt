use Rattle.std.proofs.Common.{arith}
use Rattle.s2ix_table_queries.proofs.Segments.{answered_first, start_is}
use Rattle.s2ix_table_queries.proofs.many.answer_sample.Goals as goal

pub returns-clause-count : goal.returns-clause-count
returns-clause-count g c =
    let held = g.T.RangeTable.pairs c.args.table.now in
    let each = c.at_each-each in
    let are = answered_first g.R.OfHeld.of held c.args.leaves.now c.min.result each.result.answered each.new.ends each.new.out
    (omega (arith, c.min.ensures)) each.ensures.answered in
    start_is g.R.OfHeld.of held c.args.leaves.now each.result.answered each.result.answered c.end_before.result each.new.ends each.new.out are
    (omega arith) c.end_before.ensures.first c.end_before.ensures.before
