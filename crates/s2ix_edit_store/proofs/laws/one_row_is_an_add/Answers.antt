use Rattle.s2ix_edit_store.proofs.Rows.{one_row_refused, one_row_stored}
use Rattle.s2ix_edit_store.proofs.laws.one_row_is_an_add.Goals as goal

pub returns-clause-refusal : goal.returns-clause-refusal
returns-clause-refusal c = one_row_refused

pub returns-clause-store : goal.returns-clause-store
returns-clause-store c = one_row_stored
