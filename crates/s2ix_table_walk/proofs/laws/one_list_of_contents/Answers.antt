use Rattle.s2ix_table_walk.proofs.Lists.{same_contents}
use Rattle.s2ix_table_walk.proofs.laws.one_list_of_contents.Goals as goal

pub returns : goal.returns
returns c = same_contents
