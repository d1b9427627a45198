use Rattle.std.proofs.Common.{rules}
use Rattle.s2ix_edit_store.proofs.store.Store.bag.Goals as goal

pub returns-clause-bag : goal.returns-clause-bag
returns-clause-bag g c = search rules
