use Rattle.std.proofs.Common.{rules}
use Rattle.s2ix_edit_store.proofs.store.Store.table.Goals as goal

pub returns-clause-pairs : goal.returns-clause-pairs
returns-clause-pairs g c = search rules

pub returns-clause-table : goal.returns-clause-table
returns-clause-table g c = search rules
