use Rattle.s2ix_table_faced.proofs.Unchanged.{unchanged_stay}
use Rattle.s2ix_table_faced.proofs.laws.unchanged_faces_stay.Goals as goal

pub returns : goal.returns
returns c = unchanged_stay
