use Rattle.s2ix_table_walk.proofs.Lists.{same_labels}
use Rattle.s2ix_table_walk.proofs.laws.one_label_list.Goals as goal

pub returns : goal.returns
returns c = same_labels
