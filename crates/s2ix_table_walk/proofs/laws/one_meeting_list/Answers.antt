use Rattle.s2ix_table_walk.proofs.Lists.{same_meeting}
use Rattle.s2ix_table_walk.proofs.laws.one_meeting_list.Goals as goal

pub returns : goal.returns
returns c = same_meeting
