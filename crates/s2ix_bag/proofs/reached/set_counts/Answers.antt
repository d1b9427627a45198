-- Each iteration sets the count of its entry's pair.
use Rattle.std.proofs.Common.{arith}
use Rattle.s2ix_bag.proofs.CountsSet.{pairs_by_rank, set_more}
use Rattle.s2ix_bag.proofs.reached.set_counts.Goals as goal

pub loop-entry-preserved : goal.loop-entry-preserved
loop-entry-preserved c =
    set_more _ pairs_by_rank c.args.counts.now.entries c.args.entries.now c.loop-entry.counts c.insert.new.self c.loop-entry.entry-index
    c.entry-item.result (omega arith) c.entry-item.is c.in_ok-insert.ensures.updates.0 c.loop-entry.invariant
