use Rattle.s2ix_edit_store.proofs.Offered.{one_applied, one_given}
use Rattle.s2ix_edit_store.proofs.laws.one_change_is_applied.Goals as goal

pub returns-clause-refusal : goal.returns-clause-refusal
returns-clause-refusal c = one_given

pub returns-clause-store : goal.returns-clause-store
returns-clause-store c = one_applied
