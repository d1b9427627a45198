-- Without pairs there is no place.
use Rattle.std.proofs.Common.{rules}
use Rattle.s2ix_table_parts.proofs.NoHeavy.{no_place}
use Rattle.s2ix_table_parts.proofs.heavy_pairs.HeavyPairs.held_at.Goals as goal

pub unreachable-requires : goal.unreachable-requires
unreachable-requires c = no_place c.args.self.now c.args.place (search rules) c.requires
