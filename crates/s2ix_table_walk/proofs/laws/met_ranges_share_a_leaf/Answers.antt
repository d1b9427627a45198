use Rattle.s2ix_table_walk.proofs.Meets.{leaf_of_met, met_of_leaf}
use Rattle.s2ix_table_walk.proofs.laws.met_ranges_share_a_leaf.Goals as goal

pub returns : goal.returns
returns c target held ranges range t in_ranges = (leaf_of_met target held ranges range t in_ranges, met_of_leaf target range)
