use Rattle.s2ix_edit_store.proofs.Offered.{one_row_removed}
use Rattle.s2ix_edit_store.proofs.laws.one_row_is_a_remove.Goals as goal

pub returns : goal.returns
returns c = one_row_removed
