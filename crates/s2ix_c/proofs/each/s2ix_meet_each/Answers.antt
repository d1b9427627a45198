-- The store is put back as it was.
use Rattle.std.proofs.Common.{rules}
use Rattle.s2ix_c.proofs.Through.{through_query}
use Rattle.s2ix_c.proofs.each.s2ix_meet_each.Goals as goal

pub returns-in-Some : goal.returns-in-Some
returns-in-Some c = through_query _ _ _ _ c.deref.result.now (search rules) (search rules) c.meet_each-status.ensures
