use Rattle.std.proofs.Common.{arith}
use Rattle.s2ix_table_queries.proofs.Segments.{answered_by}
use Rattle.s2ix_table_queries.proofs.many.copy_answers.Goals as goal

pub loop-rank-preserved : goal.loop-rank-preserved
loop-rank-preserved g c =
    let held = g.T.RangeTable.pairs c.args.table.now in
    let i = c.loop-rank.invariant in
    let done = c.loop-rank.done in
    let found = c.in-Some.ensures in
    let put = c.in-Some-put_items.ensures in
    let more = answered_by g.R.OfHeld.of held c.args.leaves.now done.leaves done.pairs c.in-Some-put_items.end c.loop-rank.ends c.loop-rank.out
    c.put_items.new.out c.in-Some.items.now i.0 (omega (arith, c.if-done-leaves.false)) (omega (arith, c.if-done-ends.false))
    (found.leaf held c.requires.answered) i.1 (found.items held c.requires.answered) put.end put.put in
    (more.0, more.1, omega (arith, put.within, put.same))
