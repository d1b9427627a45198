use Rattle.std.proofs.Common.{rules}
use Rattle.s2ix_edit_store.proofs.store.Store.new.Goals as goal

pub returns-clause-state : goal.returns-clause-state
returns-clause-state g c = search rules

pub returns-clause-history : goal.returns-clause-history
returns-clause-history g c = search rules
