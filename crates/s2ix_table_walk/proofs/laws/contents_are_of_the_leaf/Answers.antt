use Rattle.s2ix_table_walk.proofs.Lists.{contents_of_leaf}
use Rattle.s2ix_table_walk.proofs.laws.contents_are_of_the_leaf.Goals as goal

pub returns : goal.returns
returns c = contents_of_leaf
