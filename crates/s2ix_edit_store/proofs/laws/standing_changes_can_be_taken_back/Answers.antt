use Rattle.s2ix_edit_store.proofs.RevertRefusals.{taken_back_where}
use Rattle.s2ix_edit_store.proofs.laws.standing_changes_can_be_taken_back.Goals as goal

pub returns : goal.returns
returns c = taken_back_where
