use Rattle.s2ix_table_walk.proofs.SameMeeting.{same_region_meets}
use Rattle.s2ix_table_walk.proofs.laws.same_region_meets_the_same.Goals as goal

pub returns : goal.returns
returns c = same_region_meets
