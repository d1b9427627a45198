-- The limits are those that the three numbers made, and the store that goes on, or what is refused, is told of the texts.
use Rattle.std.proofs.Common.{ap, sym, subst}
use Rattle.s2ix_text.specs.declared.dump_error.DumpError.TheVariants.{OutOfMemory}
use Rattle.s2ix_text.specs.DumpFaults.{IsDumpError}
use Rattle.s2ix_c_calls.specs.declared.replaying.LedError.TheVariants.{Dump}
use Rattle.s2ix_c_calls.specs.Replaying.{refused_at}
use Rattle.s2ix_c.proofs.resuming.s2ix_resume.Goals as goal

pub returns-in-Ok-clause-resumed : goal.returns-in-Ok-clause-resumed
returns-in-Ok-clause-resumed c = λ is_done. (
  c.in-Some.limits,
  c.in-Some.ensures.pairs,
  c.in-Some.ensures.count,
  c.in-Some.ensures.changes,
  (c.in-Ok.store, c.in-Ok.ensures.store, c.keep.ensures.kept is_done),
)

-- the handle wants memory, as the reading of a dump without a fault may
pub returns-in-Ok-clause-refused : goal.returns-in-Ok-clause-refused
returns-in-Ok-clause-refused c = λ not_done not_limits. (
  c.in-Some.limits,
  c.in-Some.ensures.pairs,
  c.in-Some.ensures.count,
  c.in-Some.ensures.changes,
  (
    Dump OutOfMemory,
    subst (λ found. IsDumpError OutOfMemory found) (sym c.in-Ok.ensures.store.0) tt,
    ap (λ status. refused_at status 0 0) (c.keep.ensures.refused not_done).0,
  ),
)
