use Rattle.s2ix_edit_store.proofs.LimitRefusals.{drop_changes_something}
use Rattle.s2ix_edit_store.proofs.laws.dropped_labels_change_something.Goals as goal

pub returns : goal.returns
returns c = drop_changes_something
