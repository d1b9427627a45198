-- The store is put back as it was.
use Rattle.std.proofs.Common.{rules}
use Rattle.s2ix_c.proofs.Through.{through_query}
use Rattle.s2ix_c.proofs.queries.s2ix_meet.Goals as goal

pub returns-in-Some-clause-list : goal.returns-in-Some-clause-list
returns-in-Some-clause-list c = through_query _ _ _ _ c.deref.result.now (search rules) (search rules) c.meet-status.ensures.list
