use Rattle.s2ix_table_spans.proofs.Samples.{sample_rises}
use Rattle.s2ix_table_spans.proofs.places.last_start.Goals as goal

pub first_after-reached-requires-clause-rises : goal.first_after-reached-requires-clause-rises
first_after-reached-requires-clause-rises c = sample_rises c.args.starts.now c.args.sample.now c.requires.sample c.requires.rises
