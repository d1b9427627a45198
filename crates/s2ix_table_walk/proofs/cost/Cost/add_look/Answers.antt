use Rattle.std.proofs.Common.{rules}
use Rattle.s2ix_table_walk.proofs.cost.Cost.add_look.Goals as goal

pub returns : goal.returns
returns c = search rules
