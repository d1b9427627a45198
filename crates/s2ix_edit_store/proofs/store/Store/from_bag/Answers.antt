use Rattle.std.proofs.Common.{rules}
use Rattle.s2ix_edit_store.proofs.store.Store.from_bag.Goals as goal

pub returns-in_err-table-clause-state : goal.returns-in_err-table-clause-state
returns-in_err-table-clause-state g c = search rules

pub returns-in_err-table-clause-history : goal.returns-in_err-table-clause-history
returns-in_err-table-clause-history g c = search rules

pub returns-clause-state : goal.returns-clause-state
returns-clause-state g c = search rules

pub returns-clause-history : goal.returns-clause-history
returns-clause-history g c = search rules
