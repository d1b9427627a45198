use Rattle.std.proofs.Common.{◌+◌, ◌/◌, arith}
use Rattle.s2ix_table_spans.proofs.Windows.{window_by}
use Rattle.s2ix_table_spans.proofs.places.last_among.Goals as goal

pub loop-size-preserved : goal.loop-size-preserved
loop-size-preserved c =
    let within = c.loop-size.invariant.within in
    let many = c.loop-size-test.true in
    let odd = c.requires.odd (c.loop-size.first + c.loop-size.size / 2) (omega arith) in
    window_by c.args.starts.now c.args.leaf c.loop-size.first c.loop-size.size c.reached.result c.loop-size-test.true c.loop-size.invariant
    (c.reached.ensures.by odd) (c.reached.ensures.after odd) c.requires.rises
