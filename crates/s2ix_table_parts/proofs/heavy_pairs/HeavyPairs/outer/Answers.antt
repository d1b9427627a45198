-- Without pairs there is no place.
use Rattle.std.proofs.Common.{rules}
use Rattle.s2ix_table_parts.proofs.NoHeavy.{no_place}
use Rattle.s2ix_table_parts.proofs.heavy_pairs.HeavyPairs.outer.Goals as goal

pub returns-in-None : goal.returns-in-None
returns-in-None c = absurd (no_place c.args.self.now c.args.place (search rules) c.requires)
