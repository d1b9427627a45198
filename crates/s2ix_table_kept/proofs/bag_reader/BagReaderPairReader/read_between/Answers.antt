-- The reads are counted at once.
use Rattle.std.proofs.Common.{◌-◌, ◌∙◌, arith}
use Rattle.s2ix_table_kept.proofs.ReadCounts.{reads_at_once}
use Rattle.s2ix_table_kept.proofs.bag_reader.BagReaderPairReader.read_between.Goals as goal

pub returns-clause-counts : goal.returns-clause-counts
returns-clause-counts c =
    c.saturating_add-self.ensures ∙ reads_at_once (c.args.to - c.args.from) c.args.self.now.reads (omega arith)

pub returns-clause-refused : goal.returns-clause-refused
returns-clause-refused c = record {
  made = c.args.to - c.args.from;
  counts = c.saturating_add-self.ensures ∙ reads_at_once (c.args.to - c.args.from) c.args.self.now.reads (omega arith);
  some = omega arith;
  within_limit = omega arith;
}
