use Rattle.std.proofs.Common.{rules}
use Rattle.s2ix_bag_pairs.proofs.Equal.{held_decided}
use Rattle.s2ix_table_spans.proofs.block.is_same.Goals as goal

pub returns : goal.returns
returns c t = (held_decided c.args.one c.args.other).0 (search rules)
