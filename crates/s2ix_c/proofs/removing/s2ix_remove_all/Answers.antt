-- The store is put back as the rows left it.
use Rattle.std.proofs.Common.{rules}
use Rattle.s2ix_c.proofs.Through.{through_open}
use Rattle.s2ix_c.proofs.removing.s2ix_remove_all.Goals as goal

pub returns-in-Some : goal.returns-in-Some
returns-in-Some c =
    through_open _ _ _ _ c.deref_mut.result.now c.remove_all-status.new.store (search rules) (search rules) c.remove_all-status.ensures
