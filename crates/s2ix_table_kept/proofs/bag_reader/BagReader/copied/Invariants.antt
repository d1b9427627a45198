-- What was copied are the pairs from the first place on.
use Rattle.std.proofs.Common.{◌-◌}
use Rattle.s2ix_table_kept.proofs.ReadBlocks.{HasCopied}
use Rattle.s2ix_table_kept.proofs.bag_reader.BagReader.copied.Given as goal

abbrev pub invariant-loop-place : goal.invariant-loop-place
invariant-loop-place l = HasCopied l.self.bag.now.held l.from l.to l.place l.held.items

abbrev pub decreases-loop-place : goal.decreases-loop-place
decreases-loop-place l = l.to - l.place
