use Rattle.s2ix_table_walk.proofs.Lists.{meeting_list}
use Rattle.s2ix_table_walk.proofs.laws.meeting_list_is_the_targets.Goals as goal

pub returns : goal.returns
returns c = meeting_list
