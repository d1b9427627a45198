use Rattle.s2ix_edit_store.proofs.Shortened.{none_forgotten}
use Rattle.s2ix_edit_store.proofs.laws.kept_changes_are_not_forgotten.Goals as goal

pub returns : goal.returns
returns c = none_forgotten
