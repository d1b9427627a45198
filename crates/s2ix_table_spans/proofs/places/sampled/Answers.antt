use Rattle.s2ix_table_spans.proofs.Samples.{sample_rises}
use Rattle.s2ix_table_spans.proofs.places.sampled.Goals as goal

pub far_last-last-requires-clause-rises : goal.far_last-last-requires-clause-rises
far_last-last-requires-clause-rises c = sample_rises c.args.starts.now c.args.sample.now c.requires.sample c.requires.rises
